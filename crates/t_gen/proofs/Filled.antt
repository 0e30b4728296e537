-- The blocks that are reserved and filled in the order of the nodes are those that are generated.
use Rattle.std.proofs.Common.{◌≡◌, ℕ, zero, suc, ◌+◌, ◌<◌, ◌++◌, List, [], ◌∷◌, length, refl, sym, ap, ap₂, ◌∙◌, arith}
use Rattle.std.proofs.Common.{length-append}
use Rattle.t_types.specs.Tree.{NoRegs}
use Rattle.t_terms.specs.Tree.{TSeq, TBlock}
use Rattle.a_terms.specs.Tree.{ATy, AVal, ATm, Let, Call, If0, Halt, ABlk, AProg, arity}
use Rattle.a_terms.specs.Typing.{declared, more_vars, types_of}
use Rattle.t_gen_rules.specs.Gen.{used, over, target, decl_code, test_code, code, header, block, extras, rows, firsts}
use Rattle.t_gen_rules.specs.Gen.{seconds, ty_args, generated_blocks}
use Rattle.a_terms.specs.Bound.{thirds}
use Rattle.t_emit.specs.Code.{reserved, coded, fill}
use Rattle.t_gen.specs.Filling.{Job, finish, finish_from, reserves, jobs}
use Rattle.std.proofs.lemmas.List.{append-nil as no_more}

fill_front : (n : ℕ) (c : TSeq) (xs ys : List TBlock) → n < length xs → fill n c (xs ++ ys) ≡ fill n c xs ++ ys
fill_front n c [] ys l = absurd (omega arith)
fill_front zero c (x ∷ xs) ys l = refl
fill_front (suc n) c (x ∷ xs) ys l = ap (λ zs. x ∷ zs) (fill_front n c xs ys (omega arith))

fill_at : (n : ℕ) (c : TSeq) (xs : List TBlock) (b : TBlock) (ys : List TBlock) → n ≡ length xs →
    fill n c (xs ++ b ∷ ys) ≡ xs ++ coded b c ∷ ys
fill_at zero c [] b ys e = refl
fill_at (suc n) c [] b ys e = absurd (omega arith)
fill_at zero c (x ∷ xs) b ys e = absurd (omega arith)
fill_at (suc n) c (x ∷ xs) b ys e = ap (λ zs. x ∷ zs) (fill_at n c xs b ys (omega arith))

pub fill_length : (n : ℕ) (c : TSeq) (xs : List TBlock) → length (fill n c xs) ≡ length xs
fill_length n c [] = refl
fill_length zero c (x ∷ xs) = refl
fill_length (suc n) c (x ∷ xs) = ap suc (fill_length n c xs)

assoc : (xs ys zs : List TBlock) → (xs ++ ys) ++ zs ≡ xs ++ (ys ++ zs)
assoc [] ys zs = refl
assoc (x ∷ xs) ys zs = ap (λ l. x ∷ l) (assoc xs ys zs)

-- a third part's block is reserved in front of those of the second part, and filled behind them
hole : (out ea eb : List TBlock) (b : TBlock) (n at : ℕ) (here there : TSeq) → n < length out → at ≡ length out →
    fill at there (fill n here (out ++ b ∷ []) ++ ea) ++ eb ≡ fill n here out ++ (coded b there ∷ (ea ++ eb))
hole out ea eb b n at here there lt e =
    ap (λ xs. fill at there (xs ++ ea) ++ eb) (fill_front n here out (b ∷ []) lt)
    ∙ ap (λ xs. fill at there xs ++ eb) (assoc (fill n here out) (b ∷ []) ea)
    ∙ ap (λ xs. xs ++ eb) (fill_at at there (fill n here out) b ea (e ∙ sym (fill_length n here out)))
    ∙ assoc (fill n here out) (coded b there ∷ ea) eb

module _ (prog : AProg) where
  -- a declaration
  pub let_step : (at : ℕ) (out : List TBlock) (pre : TSeq → TSeq) (n k : ℕ) (m : List ℕ) (g : List ATy) (x : _)
      (e : ATm) (js : List Job) →
      finish_from prog at out pre (record { block = n; names = k; places = m; vars = g; term = Let x e }) js
      ≡ finish_from prog at out (λ rest. pre (decl_code (over m (used (Let x e))) m (target m x e) x rest))
      (record { block = n; names = more_vars x k; places = target m x e ∷ m; vars = declared prog g x; term = e })
      js
  let_step at out pre n k m g x e js = refl

  -- an `if0`: its third part's block is reserved, and waits
  pub if0_step : (at : ℕ) (out : List TBlock) (pre : TSeq → TSeq) (n k : ℕ) (m : List ℕ) (g : List ATy) (v : AVal)
      (a b : ATm) (js : List Job) → n < length out → at ≡ length out →
      finish_from prog at out pre (record { block = n; names = k; places = m; vars = g; term = If0 v a b }) js
      ≡ finish_from prog (suc at) (out ++ reserved k (header (used b) m g) ∷ [])
      (λ rest. pre (test_code (over m (used (If0 v a b))) k m v at rest))
      (record { block = n; names = k; places = m; vars = g; term = a })
      (record { block = at; names = k; places = m; vars = g; term = b } ∷ js)
  if0_step at out pre n k m g v a b js lt e =
      let here = pre (test_code (over m (used (If0 v a b))) k m v at (code k m (suc at) a)) in
      let there = code k m (suc at + thirds a) b in
      let sum : at + suc (thirds a + thirds b) ≡ suc at + thirds a + thirds b = omega arith in
      ap₂ (λ i xs. finish prog i xs js) sum
      (sym (hole out (extras prog k m g (suc at) a) (extras prog k m g (suc at + thirds a) b)
      (reserved k (header (used b) m g)) n at here there lt e))

  -- a call, and a `halt`: the block is whole
  pub call_step : (at : ℕ) (out : List TBlock) (pre : TSeq → TSeq) (n k : ℕ) (m : List ℕ) (g : List ATy) (v : AVal)
      (ts : _) (vs : _) (js : List Job) →
      finish_from prog at out pre (record { block = n; names = k; places = m; vars = g; term = Call v ts vs }) js
      ≡ finish prog at (fill n (pre (code k m at (Call v ts vs))) out) js
  call_step at out pre n k m g v ts vs js =
      let sum : at + 0 ≡ at = omega arith in
      ap₂ (λ i xs. finish prog i xs js) sum (no_more (fill n (pre (code k m at (Call v ts vs))) out))

  pub halt_step : (at : ℕ) (out : List TBlock) (pre : TSeq → TSeq) (n k : ℕ) (m : List ℕ) (g : List ATy) (v : AVal)
      (js : List Job) →
      finish_from prog at out pre (record { block = n; names = k; places = m; vars = g; term = Halt v }) js
      ≡ finish prog at (fill n (pre (code k m at (Halt v))) out) js
  halt_step at out pre n k m g v js =
      let sum : at + 0 ≡ at = omega arith in
      ap₂ (λ i xs. finish prog i xs js) sum (no_more (fill n (pre (code k m at (Halt v))) out))

  -- all blocks, from the n-th on: done are before, with the third parts so far
  blocks_filled : (some : List ABlk) (n at : ℕ) (done others : List TBlock) → n ≡ length done →
      finish prog at (done ++ (reserves some ++ others)) (jobs n some) ≡ done
      ++ (firsts some at ++ (others ++ seconds prog some at))
  blocks_filled [] n at done others e = ap (λ xs. done ++ xs) (sym (no_more others))
  blocks_filled (b ∷ some) n at done others e =
      let m = rows (arity b.args) in
      let es = extras prog b.owes m (types_of b.args []) at b.body in
      let here = block b.owes (ty_args b.args 1) m at b.body in
      ap (λ xs. finish prog (at + thirds b.body) (xs ++ es) (jobs (suc n) some))
      (fill_at n (code b.owes m at b.body) done (reserved b.owes (ty_args b.args 1)) (reserves some ++ others) e)
      ∙ ap (λ xs. finish prog (at + thirds b.body) xs (jobs (suc n) some)) (shape done here (reserves some) others es)
      ∙ blocks_filled some (suc n) (at + thirds b.body) (done ++ here ∷ []) (others ++ es)
      (omega (arith, length-append done (here ∷ [])))
      ∙ assoc done (here ∷ [])
      (firsts some (at + thirds b.body) ++ ((others ++ es) ++ seconds prog some (at + thirds b.body)))
      ∙ ap (λ xs. done ++ (here ∷ (firsts some (at + thirds b.body) ++ xs)))
      (assoc others es (seconds prog some (at + thirds b.body)))
    where
      shape : (done : List TBlock) (h : TBlock) (rs others es : List TBlock) →
          (done ++ h ∷ (rs ++ others)) ++ es ≡ (done ++ h ∷ []) ++ (rs ++ (others ++ es))
      shape done h rs others es = assoc done (h ∷ (rs ++ others)) es ∙ ap (λ xs. done ++ (h ∷ xs)) (assoc rs others es)
          ∙ sym (assoc done (h ∷ []) (rs ++ (others ++ es)))

-- the whole program: from the reserved blocks, by the jobs of the main term and the blocks in order
pub generated_is : (prog : AProg) (main : ATm) →
    finish prog (suc (length prog.blocks)) (reserved 0 NoRegs ∷ reserves prog.blocks)
    (record { block = 0; names = 0; places = []; vars = []; term = main } ∷ jobs 1 prog.blocks)
    ≡ generated_blocks prog main
generated_is prog main =
    let at = suc (length prog.blocks) in
    let es = extras prog 0 [] [] at main in
    blocks_filled prog prog.blocks 1 (at + thirds main) (block 0 NoRegs [] at main ∷ []) es refl
