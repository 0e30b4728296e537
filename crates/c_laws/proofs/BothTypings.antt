-- Types are kept, plain and within bounds.
use Rattle.std.proofs.Common.{ℕ, ◌+◌, ◌≤◌, []}
use Rattle.k_terms.specs.K.{KTm}
use Rattle.k_terms.specs.Typing.{KTyped}
use Rattle.k_terms.specs.Each.{KTypedWith}
use Rattle.k_terms.specs.Reach.{KWithin}
use Rattle.k_terms.proofs.Each.{Any, any_t}
use Rattle.calc_core.specs.Typing.{NoLabels}
use Rattle.calc_core.proofs.TypedWith.{weaker_t}
use Rattle.c_terms.specs.Typing.{CTyped}
use Rattle.c_terms.specs.Each.{CTypedWith}
use Rattle.c_terms.specs.Reach.{CWithin}
use Rattle.c_terms.proofs.Each.{plain_t}
use Rattle.c_rules.specs.Close.{close_of}
use Rattle.c_laws.proofs.Kept.{HaveAll, IsKept}
use Rattle.c_laws.proofs.ReachLaws.{Small, within_kept}
use Rattle.c_laws.proofs.Typing.{kept_types_of}
use Rattle.k_terms.specs.K.{KTys, NoKTys, MoreKTys}

any_args : (ts : KTys) → HaveAll (λ t. Unit {0}) ts
any_args NoKTys = tt
any_args (MoreKTys t ts) = (tt, any_args ts)

any_kept : IsKept (λ n. Unit {0}) (λ t. Unit {0}) (λ n. Unit {0}) (λ n t. Unit {0})
any_kept = record {
  fewer = λ m n le h. tt;
  more = λ m n le h. tt;
  ren = λ t r h. tt;
  args = λ n ts h. any_args ts;
  type = λ n t r l h. tt;
  var = λ n i l. tt;
  env = λ n r args body g l h. tt;
  code = λ n m o r q args body g l k h s. tt;
  pair = λ n m o r r2 q args body g l k h s. tt;
  called = λ n m i q args l h. tt;
  called_pair = λ n m i q args l h. tt;
}

pub types_kept : (t : KTm) → KTyped 0 [] t → CTyped 0 [] (close_of t)
types_kept t h =
    plain_t (λ n u. Unit {0}) (close_of t) 0 []
    (kept_types_of (λ n. Unit {0}) (λ u. Unit {0}) (λ n. Unit {0}) (λ n u. Unit {0}) any_kept t
    (weaker_t Any (λ n u. Unit {0} × Unit {0}) (λ n u x. (tt, tt)) NoLabels t 0 [] (any_t t 0 [] h)))

pub reach_kept : (N R B : ℕ) (t : KTm) → KTypedWith (KWithin N R B) 0 [] t →
    CTypedWith (CWithin (N + 1) (R + 4) (N + B + 1)) 0 [] (close_of t)
reach_kept N R B t h =
    kept_types_of (λ n. n ≤ N) (Small R B) (λ n. n ≤ N + 1) (CWithin (N + 1) (R + 4) (N + B + 1)) (within_kept N R B) t
    (weaker_t (KWithin N R B) (λ n u. (n ≤ N) × Small R B u) (λ n u x. (x.0, (x.1, x.2))) NoLabels t 0 [] h)
