use Rattle.std.proofs.Common.{length, sym, ap, ◌∙◌}
use Rattle.t_terms.specs.Read.{base, value}
use Rattle.t_machine.proofs.There.{value_there}
use Rattle.t_machine.proofs.loading.load_word.Goals as goal

pub data_address-requires : goal.data_address-requires
data_address-requires c =
    value_there c.requires.0 (length c.args.starts.now) c.requires.1 (value c.args.v.now) c.in-Data.d c.requires.2
    (sym c.base_of.ensures ∙ ap base c.in-Data.is)
