-- `encode_2d` meets its contract: it lends a table that keeps the rule. Assumes nothing.
use Rattle.encoding_2d.proofs.encode_2d.Goals as goal

pub encode_2d_with-requires : goal.encode_2d_with-requires
encode_2d_with-requires c = c.table-table.ensures

pub returns : goal.returns
returns c = c.encode_2d_with.ensures
