-- Typing with a property of types is typing, and with the property that every type has no more than that.
use Rattle.std.proofs.Common.{[], ◌∷◌}
use Rattle.calc_core.proofs.TypedWith.{plain_t, any_all, any_t}
pub use Rattle.calc_core.proofs.TypedWith.{Any}
use Rattle.c_terms.specs.Each.{CProp}
use Rattle.c_terms.specs.Typing.{cargs_onto}
use Rattle.h_terms.specs.Each.{AllTypedWith, HProgramWith}
use Rattle.h_terms.specs.H.{HBlks, HTm}
use Rattle.h_terms.specs.Typing.{BlockHas, AllGood, HProgramGood}

plain_blocks : (P : CProp) (ks xs : HBlks) → AllTypedWith P ks xs → AllGood ks xs
plain_blocks P ks [] h = tt
plain_blocks P ks (x ∷ xs) h = (
  (h.0.0, plain_t P (BlockHas ks) x.body x.owes (cargs_onto x.args []) h.0.2),
  plain_blocks P ks xs h.1,
)

pub plain_program : (P : CProp) (ks : HBlks) (t : HTm) → HProgramWith P ks t → HProgramGood ks t
plain_program P ks t h = (plain_blocks P ks ks h.0, plain_t P (BlockHas ks) t 0 [] h.1)

any_blocks : (ks xs : HBlks) → AllGood ks xs → AllTypedWith Any ks xs
any_blocks ks [] h = tt
any_blocks ks (x ∷ xs) h = (
  (h.0.0, any_all x.owes x.args, any_t (BlockHas ks) x.body x.owes (cargs_onto x.args []) h.0.1),
  any_blocks ks xs h.1,
)

pub any_program : (ks : HBlks) (t : HTm) → HProgramGood ks t → HProgramWith Any ks t
any_program ks t h = (any_blocks ks ks h.0, any_t (BlockHas ks) t 0 [] h.1)
