-- The blocks and the data of a program, by place.
use Rattle.std.proofs.Common.{◌≡◌, ℕ, ◌<◌, List, length, sym, ap, get_or, slice_get}
use Rattle.std.specs.Prelude.{option_map}
use Rattle.t_types.specs.Tree.{CodeTy, TupleTy}
use Rattle.t_terms.specs.Read.{blocks_of, data_of, spanned_data}
use Rattle.t_terms.specs.Spanned.{plain_fields}
use Rattle.t_terms.specs.declared.block.Block.{Block}
use Rattle.t_terms.specs.declared.data.Data.{Data}
use Rattle.t_types.specs.Read.{file}
use Rattle.t_terms.specs.Labels.{label_type, data_type, data_fields}
use Rattle.t_spill_rules.specs.Spill.{or_int}
use Rattle.t_terms.proofs.Items.{block_at, data_at}

pub label_is : (bs : List Block) (l : ℕ) (x : Block) → l < length bs → x ≡ get_or bs l x →
    CodeTy x.owes (file x.regs.regs.items) ≡ or_int (option_map label_type (slice_get (blocks_of bs) l))
label_is bs l x lt is = sym (ap (λ o. or_int (option_map label_type o)) (block_at bs l x lt is))

pub datum_is : (xs : List Data) (d : ℕ) (x : Data) → d < length xs → x ≡ get_or xs d x →
    TupleTy (data_fields (plain_fields (spanned_data x).fields))
    ≡ or_int (option_map data_type (slice_get (data_of xs) d))
datum_is xs d x lt is = sym (ap (λ o. or_int (option_map data_type o)) (data_at xs d x lt is))
