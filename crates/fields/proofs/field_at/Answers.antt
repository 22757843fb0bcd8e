-- Plain bytes up to a separator or a line's end are a field, a line's end at once is one.
use Rattle.std.proofs.Common.{arith}
use Rattle.fields.proofs.Plain.{plain_word, plain_counted, line_ends, separator_ends, line_end_at_once}
use Rattle.fields.proofs.field_at.Goals as goal

pub returns-in-10 : goal.returns-in-10
returns-in-10 c =
    plain_word _ _ c.args.at _ _ c.if-at-end.true (omega arith) (plain_counted _ _ c.args.at _ c.if-text-end.false (rw c.rest_of.ensures at c.plain_bytes.ensures)) (line_ends _ _ _ _ c.in-10.is)

pub returns-in-10-2 : goal.returns-in-10-2
returns-in-10-2 c = line_end_at_once _ _ c.args.at _ (omega arith) (omega arith) (omega arith) c.in-10.is

pub returns-in_default : goal.returns-in_default
returns-in_default c =
    plain_word _ _ c.args.at _ _ (omega arith) (omega arith) (plain_counted _ _ c.args.at _ c.if-text-end.false (rw c.rest_of.ensures at c.plain_bytes.ensures)) (separator_ends _ _ _ _ (λ e. omega arith) c.if-b-separator.true)
