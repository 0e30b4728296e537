-- Code generation puts no package inside a package.
use Rattle.std.proofs.Common.{ℕ, suc, ◌+◌, List, [], ◌∷◌, ◌++◌, length}
use Rattle.std.specs.Prelude.{Bool, true, false}
use Rattle.std.proofs.lemmas.Bool.{cond_both}
use Rattle.t_types.specs.Tree.{Ty}
use Rattle.t_terms.specs.Tree as T
use Rattle.t_terms.specs.Tree.{TValue, TSeq, Then, Ends, TBlock}
use Rattle.a_terms.specs.Tree.{ATy, AVal, Var, Num, Lab, Data, Apply, Pack, ADecl, Value, Proj, Arith, Unpack, Malloc}
use Rattle.a_terms.specs.Tree.{Init, ATm, Let, Call, If0, Halt, ABlk, AConsts, AProg, arity}
use Rattle.a_terms.specs.Typing.{declared, more_vars, types_of, Unpacked, Flat, TypedData, TypedTuples, TypedProgram}
use Rattle.a_terms.specs.Bound.{thirds}
use Rattle.t_gen_rules.specs.Gen.{tys, inside, small, boxed, unnest, stands, move, settle, target, decl_code, saved}
use Rattle.t_gen_rules.specs.Gen.{call_code, above, code, extras, rows, firsts, seconds, applied_to, constant, data_of}
use Rattle.t_gen_rules.specs.Gen.{generated_heap, generated}
use Rattle.t_terms.specs.Values.{SeqValues, BlocksValues, DataValues, HeapValues}
use Rattle.t_terms.specs.Flat.{NoPack, FlatValue, Flat as FlatProgram}

inside_none : (t : ℕ) (x : TValue) → NoPack (inside t x)
inside_none t (T.Plain b us) = tt
inside_none t (T.Pack h v s) = tt

applied_flat : (v : TValue) (ts : List Ty) → FlatValue v → FlatValue (applied_to v ts)
applied_flat (T.Plain b us) ts h = tt
applied_flat (T.Pack x v s) ts h = h

small_flat : (t : ℕ) (m : List ℕ) (v : AVal) → FlatValue (small t m v)
small_flat t m (Var n) = tt
small_flat t m (Num i) = tt
small_flat t m (Lab l) = tt
small_flat t m (Data n) = tt
small_flat t m (Apply v ts) = applied_flat (small t m v) (tys ts) (small_flat t m v)
small_flat t m (Pack h v s) = inside_none t (small t m v)

boxed_flat : (t : ℕ) (x : TValue) (rest : TSeq) → FlatValue x → SeqValues FlatValue rest →
    SeqValues FlatValue (boxed t x rest)
boxed_flat t (T.Plain b us) rest f h = h
boxed_flat t (T.Pack p v s) rest f h = (f, h)

unnest_flat : (t : ℕ) (m : List ℕ) (v : AVal) (rest : TSeq) → SeqValues FlatValue rest →
    SeqValues FlatValue (unnest t m v rest)
unnest_flat t m (Var n) rest h = h
unnest_flat t m (Num i) rest h = h
unnest_flat t m (Lab l) rest h = h
unnest_flat t m (Data n) rest h = h
unnest_flat t m (Apply v ts) rest h = unnest_flat t m v rest h
unnest_flat t m (Pack p v s) rest h = unnest_flat t m v _ (boxed_flat t (small t m v) rest (small_flat t m v) h)

move_flat : (r : ℕ) (x : TValue) (rest : TSeq) → FlatValue x → SeqValues FlatValue rest →
    SeqValues FlatValue (move r x rest)
move_flat r x rest f h = cond_both (stands r x) rest (Then (T.Mov r x) rest) (SeqValues FlatValue) (λ c. h) (λ c.
    (f, h))

settle_flat : (t : ℕ) (x : TValue) (rest : TSeq) → FlatValue x → SeqValues FlatValue rest →
    SeqValues FlatValue (settle t x rest)
settle_flat t (T.Plain (T.Reg r) []) rest f h = h
settle_flat t (T.Plain (T.Reg r) (u ∷ us)) rest f h = (f, h)
settle_flat t (T.Plain (T.Int i) us) rest f h = (f, h)
settle_flat t (T.Plain (T.Label l) us) rest f h = (f, h)
settle_flat t (T.Plain (T.Data n) us) rest f h = (f, h)
settle_flat t (T.Pack p v s) rest f h = (f, h)

settled_flat : (t : ℕ) (m : List ℕ) (v : AVal) (rest : TSeq) → SeqValues FlatValue rest →
    SeqValues FlatValue (unnest t m v (settle t (small t m v) rest))
settled_flat t m v rest h = unnest_flat t m v _ (settle_flat t (small t m v) rest (small_flat t m v) h)

decl_flat : (t : ℕ) (m : List ℕ) (r : ℕ) (x : ADecl) (rest : TSeq) → SeqValues FlatValue rest →
    SeqValues FlatValue (decl_code t m r x rest)
decl_flat t m r (Value v) rest h = unnest_flat _ m v _ (move_flat r _ rest (small_flat _ m v) h)
decl_flat t m r (Proj i v) rest h = settled_flat r m v _ (tt, h)
decl_flat t m r (Arith o v w) rest h = settled_flat t m v _ (unnest_flat (suc t) m w _ (small_flat (suc t) m w, h))
decl_flat t m r (Unpack v) rest h = unnest_flat r m v _ (small_flat r m v, h)
decl_flat t m r (Malloc ts) rest h = (tt, h)
decl_flat t m r (Init v i w) rest h =
    unnest_flat _ m v _ (move_flat r _ _ (small_flat _ m v) (settled_flat _ m w _ (tt, h)))

saved_flat : (o : Bool) (b r : ℕ) (rest : TSeq) → SeqValues FlatValue rest → SeqValues FlatValue (saved o b r rest)
saved_flat false b r rest h = h
saved_flat true b r rest h = (tt, h)

call_flat : (j b : ℕ) (m : List ℕ) (vs : List AVal) (c : AVal) (ts : List Ty) →
    SeqValues FlatValue (call_code j b m vs c ts)
call_flat j b m [] c ts = unnest_flat b m c _ (applied_flat (small b m c) ts (small_flat b m c))
call_flat j b m (v ∷ vs) c ts =
    saved_flat _ b j _ (unnest_flat _ _ v _ (move_flat j _ _ (small_flat _ _ v) (call_flat (suc j) _ _ vs c ts)))

code_flat : (k : ℕ) (m : List ℕ) (at : ℕ) (e : ATm) → SeqValues FlatValue (code k m at e)
code_flat k m at (Let x e) = decl_flat _ m _ x _ (code_flat (more_vars x k) (target m x e ∷ m) at e)
code_flat k m at (Call v ts vs) = call_flat 1 (above m v vs) m vs v (tys ts)
code_flat k m at (If0 v a b) = settled_flat _ m v _ (tt, code_flat k m (suc at) a)
code_flat k m at (Halt v) = unnest_flat _ m v _ (move_flat 1 _ (Ends T.Halt) (small_flat _ m v) tt)

both_flat : (xs ys : List TBlock) → BlocksValues FlatValue xs → BlocksValues FlatValue ys →
    BlocksValues FlatValue (xs ++ ys)
both_flat [] ys a b = b
both_flat (x ∷ xs) ys a b = (a.0, both_flat xs ys a.1 b)

extras_flat : (p : AProg) (k : ℕ) (m : List ℕ) (g : List ATy) (at : ℕ) (e : ATm) →
    BlocksValues FlatValue (extras p k m g at e)
extras_flat p k m g at (Let x e) = extras_flat p (more_vars x k) (target m x e ∷ m) (declared p g x) at e
extras_flat p k m g at (Call v ts vs) = tt
extras_flat p k m g at (If0 v a b) = (
  code_flat k m (suc at + thirds a) b,
  both_flat (extras p k m g (suc at) a) (extras p k m g (suc at + thirds a) b)
      (extras_flat p k m g (suc at) a) (extras_flat p k m g (suc at + thirds a) b),
)
extras_flat p k m g at (Halt v) = tt

firsts_flat : (bs : List ABlk) (at : ℕ) → BlocksValues FlatValue (firsts bs at)
firsts_flat [] at = tt
firsts_flat (b ∷ bs) at = (code_flat b.owes (rows (arity b.args)) at b.body, firsts_flat bs (at + thirds b.body))

seconds_flat : (p : AProg) (bs : List ABlk) (at : ℕ) → BlocksValues FlatValue (seconds p bs at)
seconds_flat p [] at = tt
seconds_flat p (b ∷ bs) at =
    both_flat (extras p b.owes (rows (arity b.args)) (types_of b.args []) at b.body)
    (seconds p bs (at + thirds b.body)) (extras_flat p b.owes (rows (arity b.args)) (types_of b.args []) at b.body)
    (seconds_flat p bs (at + thirds b.body))

-- the data
applied_none : (v : TValue) (ts : List Ty) → NoPack v → NoPack (applied_to v ts)
applied_none (T.Plain b us) ts h = tt
applied_none (T.Pack x v s) ts h = h

no_pack : (v : AVal) → Unpacked v → NoPack (constant v)
no_pack (Var n) u = tt
no_pack (Num i) u = tt
no_pack (Lab l) u = tt
no_pack (Data n) u = tt
no_pack (Apply v ts) u = applied_none (constant v) (tys ts) (no_pack v u)
no_pack (Pack h v s) u = u

constant_flat : (v : AVal) → Flat v → FlatValue (constant v)
constant_flat (Var n) f = tt
constant_flat (Num i) f = tt
constant_flat (Lab l) f = tt
constant_flat (Data n) f = tt
constant_flat (Apply v ts) f = applied_flat (constant v) (tys ts) (constant_flat v f)
constant_flat (Pack h v s) f = no_pack v f

data_flat : (p : AProg) (cs : AConsts) → TypedData p cs → DataValues FlatValue (data_of cs)
data_flat p [] a = tt
data_flat p (c ∷ cs) a = (constant_flat c.value a.0.2, data_flat p cs a.1)

heap_flat : (p : AProg) (xs : List AConsts) → TypedTuples p xs → HeapValues FlatValue (generated_heap xs)
heap_flat p [] a = tt
heap_flat p (x ∷ xs) a = (data_flat p x a.0, heap_flat p xs a.1)

pub flat : (p : AProg) (main : ATm) → TypedProgram p main → FlatProgram (generated p main)
flat p main q =
    let at = suc (length p.blocks) in
    let at0 = at + thirds main in
    let es = extras p 0 [] [] at main in
    let ss = seconds p p.blocks at0 in (
      (
        code_flat 0 [] at main,
        both_flat (firsts p.blocks at0) (es ++ ss) (firsts_flat p.blocks at0)
            (both_flat es ss (extras_flat p 0 [] [] at main) (seconds_flat p p.blocks at0)),
      ),
      heap_flat p p.tuples q.tuples,
    )
