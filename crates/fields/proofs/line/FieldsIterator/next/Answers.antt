-- Every field goes on from where it was looked for.
use Rattle.std.proofs.Common.{rules}
use Rattle.fields.proofs.GoesOn.{word_goes_on}
use Rattle.fields.proofs.line.FieldsIterator.next.Goals as goal

pub returns-clause-goes : goal.returns-clause-goes
returns-clause-goes c =
    let h = word_goes_on c.args.self.now.separator c.args.self.now.text.now c.args.self.now.at c.in-Word.start c.in-Word.end c.in-Word.next c.in-Word.ensures in
    search rules
