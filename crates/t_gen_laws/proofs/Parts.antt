-- The blocks of the program and their further parts have the types of the program, and the property.
use Rattle.std.proofs.Common.{ℕ, suc, ◌+◌, List, [], ◌∷◌, ◌++◌, length, refl, sym, ap}
use Rattle.std.specs.Prelude.{◌==◌, nat_lt, Bool, true, cond, ◌||◌}
use Rattle.std.proofs.lemmas.Bool.{cond_both, or_left, or_right}
use Rattle.a_terms.specs.Tree.{ATy, ATys, NoATys, MoreATys, ATm, Let, Call, If0, Halt, ABlk, AProg, arity}
use Rattle.a_terms.specs.Typing.{declared, more_vars, TypedTerm, types_of, TypedBlocks}
use Rattle.a_terms.specs.TypeLaws.{All-below, below_args, Args-below, declared_below}
use Rattle.a_terms.specs.Each.{AProp, AAll, TEach, BsEach}
use Rattle.a_terms.specs.Bound.{thirds}
use Rattle.t_types.specs.Tree.{Ty, TFile, NoRegs, MoreRegs, BelowFile}
use Rattle.t_types.proofs.FitsLaws.{fits_same}
use Rattle.t_types.specs.Fits.{lookup}
use Rattle.t_terms.specs.Tree.{TBlock, TProg}
use Rattle.t_gen_rules.specs.Gen.{ty, ty_args, uses, used, target, insert, header, extras, rows, firsts, seconds}
use Rattle.t_gen_laws.specs.GenLaws.{length_extras}
use Rattle.t_gen_laws.specs.TypesEach.{TProp, FileTypes, SeqEach}
use Rattle.t_gen_laws.proofs.Covers.{live_fewer, Apart, apart_fewer, live_header, live_args, apart_args, live_over}
use Rattle.t_gen_laws.proofs.Places.{HasAt, has_front, has_back}
use Rattle.t_gen_laws.proofs.Values.{below_ty_args, below_header, Labels, All-of, Carried}
use Rattle.t_gen_laws.proofs.OneMore.{apart_next}
use Rattle.t_gen_laws.proofs.Typed.{own_q, parts_args, names_in, parts_declared, term_each}

module _ (A : AProp) (N : ℕ → Type 0) (S : ATy → Type 0) (Q : TProp) (C : Carried A N S Q) where
  args_q : (k : ℕ) (ts : ATys) (r : ℕ) → AAll A k ts → FileTypes Q k (ty_args ts r)
  args_q k NoATys r h = tt
  args_q k (MoreATys t ts) r h = (own_q A N S Q C k t h.0, args_q k ts (suc r) h.1)

  insert_q : (k r : ℕ) (t : Ty) (f : TFile) → Q k t → FileTypes Q k f → FileTypes Q k (insert r t f)
  insert_q k r t NoRegs q h = (q, tt)
  insert_q k r t (MoreRegs p u f) q h =
      cond_both (r == p) (MoreRegs r t f)
      (cond (nat_lt r p) (MoreRegs r t (MoreRegs p u f)) (MoreRegs p u (insert r t f))) (FileTypes Q k)
      (λ c. (q, h.1))
      (λ c. cond_both (nat_lt r p) (MoreRegs r t (MoreRegs p u f)) (MoreRegs p u (insert r t f)) (FileTypes Q k)
      (λ d. (q, h)) (λ d. (h.0, insert_q k r t f q h.1)))

  header_q : (k : ℕ) (u : ℕ → Bool) (m : List ℕ) (g : List ATy) → N k → All-of S g → FileTypes Q k (header u m g)
  header_q k u m [] n s = tt
  header_q k u [] (t ∷ g) n s = tt
  header_q k u (r ∷ m) (t ∷ g) n s =
      let f = header (λ n. u (suc n)) m g in
      let rest = header_q k (λ n. u (suc n)) m g n s.1 in
      cond_both (u 0) (insert r (ty t) f) f (FileTypes Q k)
      (λ c. insert_q k r (ty t) f (C.of_type k t (ty t) n s.0 (fits_same (ty t))) rest) (λ c. rest)

  module _ (p : AProg) (P : TProg) (labels : Labels p P) (ok : Args-below p) where
    -- the file and the sequence of each block
    abbrev pub Good : List TBlock → Type 0
    Good [] = Unit {0}
    Good (b ∷ bs) =
        (BelowFile b.owes b.file × FileTypes Q b.owes b.file × SeqEach Q P b.owes (lookup b.file) b.code) × Good bs

    pub good_both : (xs ys : List TBlock) → Good xs → Good ys → Good (xs ++ ys)
    good_both [] ys a b = b
    good_both (x ∷ xs) ys a b = (a.0, good_both xs ys a.1 b)

    pub extras_good : (e : ATm) (k : ℕ) (g : List ATy) (m : List ℕ) (at : ℕ) → Apart m g (used e) → All-below k g →
        TypedTerm p k g e → TEach A p k g e → All-of S g → HasAt P.blocks at (extras p k m g at e) →
        Good (extras p k m g at e)
    extras_good (Let x e) k g m at ap_ b t te sm has =
        extras_good e (more_vars x k) (declared p g x) (target m x e ∷ m) at (apart_next p k g m x e ap_ t.0)
        (declared_below p ok k g b x t.0) t.1 te.1 (parts_declared A N S Q C p k g x te.0 t.0 sm) has
    extras_good (Call v ts vs) k g m at ap_ b t te sm has = tt
    extras_good (If0 v x y) k g m at ap_ b t te sm has =
        let ex = extras p k m g (suc at) x in
        let ey = extras p k m g (suc at + thirds x) y in
        let len = length_extras p k m g (suc at) x in
        let front = has_front P.blocks (suc at) ex ey has.1 in
        let back = has_back P.blocks (suc at) (suc at + thirds x) ex ey (ap (λ q. suc at + q) (sym len)) has.1 in
        let apx = apart_fewer m g (used (If0 v x y)) (used x)
        (λ n z. or_right (uses v n) (used x n || used y n) (or_left (used x n) (used y n) z)) ap_ in
        let apy = apart_fewer m g (used (If0 v x y)) (used y)
        (λ n z. or_right (uses v n) (used x n || used y n) (or_right (used x n) (used y n) z)) ap_ in (
          (
            below_header k (used y) m g b,
            header_q k (used y) m g (names_in A N S Q C p k g v te.0) sm,
            term_each A N S Q C p P labels ok y k g m (suc at + thirds x) (lookup (header (used y) m g)) apy
                (live_header m g (used y) apy) b t.2 te.2 sm back,
          ),
          good_both ex ey (extras_good x k g m (suc at) apx b t.1 te.1 sm front)
              (extras_good y k g m (suc at + thirds x) apy b t.2 te.2 sm back),
        )
    extras_good (Halt v) k g m at ap_ b t te sm has = tt

    -- the blocks of the program, and then their third parts
    pub firsts_good : (some : List ABlk) (at : ℕ) → TypedBlocks p some → BsEach A p some →
        HasAt P.blocks at (seconds p some at) → Good (firsts some at) × Good (seconds p some at)
    firsts_good [] at a be has = (tt, tt)
    firsts_good (b ∷ some) at a be has =
        let g = types_of b.args [] in
        let m = rows (arity b.args) in
        let es = extras p b.owes m g at b.body in
        let len = length_extras p b.owes m g at b.body in
        let front = has_front P.blocks at es _ has in
        let back = has_back P.blocks at (at + thirds b.body) es (seconds p some (at + thirds b.body))
        (ap (λ q. at + q) (sym len)) has in
        let below = below_args b.owes b.args [] a.0.0 tt in
        let apart = apart_args b.args (used b.body) in
        let c = live_over (lookup (ty_args b.args 1)) m g (suc (length g)) (used b.body)
        (live_fewer (lookup (ty_args b.args 1)) m g (suc (length g)) (λ n. true) (used b.body) (λ n z. refl)
        (live_args b.args)) in
        let rest = firsts_good some (at + thirds b.body) a.1 be.1 back in
        let sm = parts_args A N S Q C b.owes b.args [] be.0.0 tt in (
          (
            (
              below_ty_args b.args b.owes 1 a.0.0,
              args_q b.owes b.args 1 be.0.0,
              term_each A N S Q C p P labels ok b.body b.owes g m at (lookup (ty_args b.args 1)) apart c below a.0.1
                  be.0.1 sm front,
            ),
            rest.0,
          ),
          good_both es _ (extras_good b.body b.owes g m at apart below a.0.1 be.0.1 sm front) rest.1,
        )
