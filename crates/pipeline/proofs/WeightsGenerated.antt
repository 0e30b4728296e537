-- Code generation keeps the weight, whichever registers it takes.
use Rattle.std.proofs.Common.{◌≡◌, ℕ, suc, ◌+◌, ◌-◌, ◌++◌, List, [], ◌∷◌, length, Bool, true, false, cond, not, ◌&&◌}
use Rattle.std.proofs.Common.{refl, ◌∙◌, arith}
use Rattle.t_types.specs.Tree.{Ty}
use Rattle.t_terms.specs.Tree as T
use Rattle.t_terms.specs.Tree.{TValue, TSeq, Then, Ends, TBlock}
use Rattle.a_terms.specs.Tree.{ATy, AVal, Var, Num, Lab, Data, Apply, Pack, ADecl, Value, Proj, Arith, Unpack, Malloc}
use Rattle.a_terms.specs.Tree.{Init, ATm, Let, Call, If0, Halt, ABlk, AProg, arity}
use Rattle.a_terms.specs.Typing.{declared, more_vars, types_of}
use Rattle.a_terms.specs.Bound.{thirds}
use Rattle.t_gen_rules.specs.Gen.{tys, small, boxed, unnest, stands, move, home, settle, over, uses, used, target}
use Rattle.t_gen_rules.specs.Gen.{decl_code, tvars, later, owns, saved, above_saved, places_saved, call_code, above}
use Rattle.t_gen_rules.specs.Gen.{other_than, test_code}
use Rattle.t_gen_rules.specs.Gen.{code, extras, rows, firsts, seconds, generated_blocks}
use Rattle.pipeline.specs.Weights.{Weights, seq_weight, blocks_weight}
use Rattle.pipeline.proofs.WeightsAllocated.{a_d, a_t, a_all}

module _ (w : Weights) where
  -- moves weigh nothing
  of_boxed : (t : ℕ) (v : TValue) (rest : TSeq) → seq_weight w (boxed t v rest) ≡ seq_weight w rest
  of_boxed t (T.Plain b us) rest = refl
  of_boxed t (T.Pack h v s) rest = omega arith

  of_unnest : (v : AVal) (t : ℕ) (m : List ℕ) (rest : TSeq) → seq_weight w (unnest t m v rest) ≡ seq_weight w rest
  of_unnest (Var n) t m rest = refl
  of_unnest (Num i) t m rest = refl
  of_unnest (Lab l) t m rest = refl
  of_unnest (Data n) t m rest = refl
  of_unnest (Apply v ts) t m rest = of_unnest v t m rest
  of_unnest (Pack h v s) t m rest =
      of_unnest v t m (boxed t (small t m v) rest) ∙ of_boxed t (small t m v) rest

  of_cond : (b : Bool) (r : ℕ) (v : TValue) (rest : TSeq) →
      seq_weight w (cond b rest (Then (T.Mov r v) rest)) ≡ seq_weight w rest
  of_cond true r v rest = refl
  of_cond false r v rest = omega arith

  of_move : (r : ℕ) (v : TValue) (rest : TSeq) → seq_weight w (move r v rest) ≡ seq_weight w rest
  of_move r v rest = of_cond (stands r v) r v rest

  of_settle : (t : ℕ) (v : TValue) (rest : TSeq) → seq_weight w (settle t v rest) ≡ seq_weight w rest
  of_settle t (T.Plain (T.Reg r) []) rest = refl
  of_settle t (T.Plain (T.Reg r) (u ∷ us)) rest = omega arith
  of_settle t (T.Plain (T.Int i) us) rest = omega arith
  of_settle t (T.Plain (T.Label l) us) rest = omega arith
  of_settle t (T.Plain (T.Data n) us) rest = omega arith
  of_settle t (T.Pack h v s) rest = omega arith

  of_saved : (lost : Bool) (b r : ℕ) (rest : TSeq) → seq_weight w (saved lost b r rest) ≡ seq_weight w rest
  of_saved false b r rest = refl
  of_saved true b r rest = omega arith

  of_decl : (x : ADecl) (t : ℕ) (m : List ℕ) (r : ℕ) (rest : TSeq) →
      seq_weight w (decl_code t m r x rest) ≡ a_d w x + seq_weight w rest
  of_decl (Value v) t m r rest =
      let x = of_unnest v t m (move r (small t m v) rest) in
      let y = of_move r (small t m v) rest in
      omega (arith, x, y)
  of_decl (Proj i v) t m r rest =
      let x = small r m v in
      let last : TSeq = Then (T.Ld r (home r x) (i - 1)) rest in
      let y = of_unnest v r m (settle r x last) in
      let z = of_settle r x last in
      omega (arith, y, z)
  of_decl (Arith op v u) t m r rest =
      let x = small t m v in
      let last : TSeq = Then (T.Arith op r (home t x) (small (suc t) m u)) rest in
      let p = of_unnest v t m (settle t x (unnest (suc t) m u last)) in
      let q = of_settle t x (unnest (suc t) m u last) in
      let s = of_unnest u (suc t) m last in
      omega (arith, p, q, s)
  of_decl (Unpack v) t m r rest =
      let x = of_unnest v r m (Then (T.Unpack r (small r m v)) rest) in omega (arith, x)
  of_decl (Malloc ts) t m r rest = refl
  of_decl (Init v i u) t m r rest =
      let s = other_than r t in
      let y = small s m u in
      let last : TSeq = Then (T.St r (i - 1) (home s y)) rest in
      let filled = unnest s m u (settle s y last) in
      let a = of_unnest v s m (move r (small s m v) filled) in
      let b = of_move r (small s m v) filled in
      let c = of_unnest u s m (settle s y last) in
      let d = of_settle s y last in
      omega (arith, a, b, c, d)

  of_call : (vs : List AVal) (j b : ℕ) (m : List ℕ) (c : AVal) (ts : List Ty) →
      seq_weight w (call_code j b m vs c ts) ≡ w.jump
  of_call [] j b m c ts = of_unnest c b m _
  of_call (v ∷ vs) j b m c ts =
      let lost = not (owns j m v) && later j m vs c in
      let a = above_saved lost b in
      let l = places_saved lost b j m in
      let rest = call_code (suc j) a l vs c ts in
      let p = of_saved lost b j (unnest a l v (move j (small a l v) rest)) in
      let q = of_unnest v a l (move j (small a l v) rest) in
      let r = of_move j (small a l v) rest in
      let s = of_call vs (suc j) a l c ts in
      omega (arith, p, q, r, s)

  of_test : (t k : ℕ) (m : List ℕ) (v : AVal) (at : ℕ) (rest : TSeq) →
      seq_weight w (test_code t k m v at rest) ≡ w.choice + seq_weight w rest
  of_test t k m v at rest =
      let x = small t m v in
      let last : TSeq = Then (T.Bnz (home t x) (T.Plain (T.Label at) (tvars k))) rest in
      let p = of_unnest v t m (settle t x last) in
      let q = of_settle t x last in
      omega (arith, p, q)

  of_more : (xs ys : List TBlock) → blocks_weight w (xs ++ ys) ≡ blocks_weight w xs + blocks_weight w ys
  of_more [] ys = omega arith
  of_more (x ∷ xs) ys = let r = of_more xs ys in omega (arith, r)

  -- a term, with the third parts of its choices
  of_code : (e : ATm) (p : AProg) (k : ℕ) (m : List ℕ) (g : List ATy) (at : ℕ) →
      seq_weight w (code k m at e) + blocks_weight w (extras p k m g at e) ≡ a_t w e
  of_code (Let x e) p k m g at =
      let r = target m x e in
      let a = of_decl x (over m (used (Let x e))) m r (code (more_vars x k) (r ∷ m) at e) in
      let b = of_code e p (more_vars x k) (r ∷ m) (declared p g x) at in
      omega (arith, a, b)
  of_code (Call v ts vs) p k m g at =
      let a = of_call vs 1 (above m v vs) m v (tys ts) in omega (arith, a)
  of_code (If0 v a b) p k m g at =
      let x = of_test (over m (used (If0 v a b))) k m v at (code k m (suc at) a) in
      let y = of_code a p k m g (suc at) in
      let z = of_code b p k m g (suc at + thirds a) in
      let more = of_more (extras p k m g (suc at) a) (extras p k m g (suc at + thirds a) b) in
      omega (arith, x, y, z, more)
  of_code (Halt v) p k m g at =
      let t = over m (uses v) in
      let x = of_unnest v t m (move 1 (small t m v) (Ends T.Halt)) in
      let y = of_move 1 (small t m v) (Ends T.Halt) in
      omega (arith, x, y)

  of_blocks : (bs : List ABlk) (p : AProg) (at : ℕ) →
      blocks_weight w (firsts bs at) + blocks_weight w (seconds p bs at) ≡ a_all w bs
  of_blocks [] p at = refl
  of_blocks (b ∷ bs) p at =
      let m = rows (arity b.args) in
      let g = types_of b.args [] in
      let next = at + thirds b.body in
      let x = of_code b.body p b.owes m g at in
      let y = of_blocks bs p next in
      let more = of_more (extras p b.owes m g at b.body) (seconds p bs next) in
      omega (arith, x, y, more)

  pub generated_weight : (p : AProg) (main : ATm) →
      blocks_weight w (generated_blocks p main) ≡ a_t w main + a_all w p.blocks
  generated_weight p main =
      let at = suc (length p.blocks) in
      let next = at + thirds main in
      let x = of_code main p 0 [] [] at in
      let y = of_blocks p.blocks p next in
      let first = extras p 0 [] [] at main in
      let all = of_more (firsts p.blocks next) (first ++ seconds p p.blocks next) in
      let more = of_more first (seconds p p.blocks next) in
      omega (arith, x, y, all, more)
