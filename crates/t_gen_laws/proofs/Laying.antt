-- How a generated program is laid out.
use Rattle.std.proofs.Common.{◌≡◌, ℕ, zero, suc, ◌+◌, List, [], ◌∷◌, ◌++◌, Some, length, refl, sym, ap, ◌∙◌, arith}
use Rattle.std.proofs.Common.{length-append, slice_get}
use Rattle.std.specs.Prelude.{option_map}
use Rattle.a_terms.specs.Tree.{ATy, ATm, Let, Call, If0, Halt, ABlk, AConsts, AProg, arity}
use Rattle.a_terms.specs.Typing.{declared, more_vars, types_of}
use Rattle.t_terms.specs.Tree.{TBlock}
use Rattle.a_terms.specs.Bound.{thirds, all_thirds}
use Rattle.t_gen_laws.specs.Counting.{first_of}
use Rattle.t_gen_rules.specs.Gen.{target, extras, rows, firsts, seconds, data_of, generated_blocks, generated_heap}
use Rattle.t_gen_laws.specs.GenLaws.{length_extras}
use Rattle.t_gen_laws.specs.Layout.{LaidOut, ThirdsAt}
use Rattle.t_gen_laws.proofs.Places.{HasAt, has_all, has_back, has_front, length_firsts, block_at, extras_at}

length_seconds : (p : AProg) (bs : List ABlk) (at : ℕ) → length (seconds p bs at) ≡ all_thirds bs
length_seconds p [] at = refl
length_seconds p (b ∷ bs) at =
    let es = extras p b.owes (rows (arity b.args)) (types_of b.args []) at b.body in
    let rest = seconds p bs (at + thirds b.body) in
    omega (
      arith,
      length-append es rest,
      length_extras p b.owes (rows (arity b.args)) (types_of b.args []) at b.body,
      length_seconds p bs (at + thirds b.body),
    )

pub length_heap : (xs : List AConsts) → length (generated_heap xs) ≡ length xs
length_heap [] = refl
length_heap (x ∷ xs) = ap suc (length_heap xs)

pub tuple_at : (xs : List AConsts) (n : ℕ) (x : AConsts) → slice_get xs n ≡ Some x →
    slice_get (generated_heap xs) n ≡ Some (data_of x)
tuple_at [] n x e = cc
tuple_at (y ∷ xs) zero x e = ap (option_map data_of) e
tuple_at (y ∷ xs) (suc n) x e = tuple_at xs n x e

thirds_at : (P : List TBlock) (p : AProg) (k : ℕ) (m : List ℕ) (g : List ATy) (at : ℕ) (e : ATm) →
    HasAt P at (extras p k m g at e) → ThirdsAt P p k m g at e
thirds_at P p k m g at (Let x e) h = thirds_at P p (more_vars x k) (target m x e ∷ m) (declared p g x) at e h
thirds_at P p k m g at (Call v ts vs) h = tt
thirds_at P p k m g at (If0 v a b) h =
    let ea = extras p k m g (suc at) a in
    let eb = extras p k m g (suc at + thirds a) b in
    let n = length_extras p k m g (suc at) a in (
      h.0,
      thirds_at P p k m g (suc at) a (has_front P (suc at) ea eb h.1),
      thirds_at P p k m g (suc at + thirds a) b
          (has_back P (suc at) (suc at + thirds a) ea eb (ap (λ i. suc at + i) (sym n)) h.1),
    )
thirds_at P p k m g at (Halt v) h = tt

pub laid_out : LaidOut
laid_out p main =
    let P = generated_blocks p main in
    let at = suc (length p.blocks) in
    let at0 = at + thirds main in
    let fs = firsts p.blocks at0 in
    let es = extras p 0 [] [] at main in
    let ss = seconds p p.blocks at0 in
    let l1 = length_firsts p.blocks at0 in
    let l2 = length_extras p 0 [] [] at main in
    let l3 = length_seconds p p.blocks at0 in
    let l4 = length-append fs (es ++ ss) in
    let l5 = length-append es ss in
    let there = has_front P 1 fs (es ++ ss) (has_all P).1 in
    let others = has_back P 1 at fs (es ++ ss) (omega (arith, l1)) (has_all P).1 in
    let later = has_back P at at0 es ss (omega (arith, l2)) others in
    record {
      main_block = refl;
      blocks = λ l b e.
          (let z : 1 + l ≡ suc l = omega arith in ap (slice_get P) (sym z) ∙ block_at P p.blocks 1 at0 l b there e);
      main_thirds = thirds_at P p 0 [] [] at main (has_front P at es ss others);
      block_thirds =
          λ l b e. thirds_at P p b.owes (rows (arity b.args)) (types_of b.args []) (first_of p.blocks at0 l) b.body
          (extras_at P p p.blocks at0 l b later e);
      count = omega (arith, l1, l2, l3, l4, l5);
      tuples = tuple_at p.tuples;
      tuple_count = length_heap p.tuples;
    }
