use Rattle.std.proofs.Common.{sym, ◌∙◌}
use Rattle.alias_class.proofs.Linking.{foreign_is}
use Rattle.alias_class.proofs.passing.Passing.foreign_link.Goals as goal

pub returns : goal.returns
returns c = foreign_is c.args.self.now c.args.cell c.requires.foreign c.unwrap-rank.result (sym c.get_index_of.ensures.index ∙ c.unwrap-rank.ensures)
