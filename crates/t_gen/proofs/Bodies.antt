-- The bodies of a program, one after the other.
use Rattle.std.proofs.Common.{◌≡◌, ℕ, zero, suc, ◌+◌, ◌<◌, ◌≤◌, ◌++◌, List, [], ◌∷◌, length, take, drop, get_or, refl}
use Rattle.std.proofs.Common.{sym, ap, ap₂, ◌∙◌, subst, arith, length-append}
use Rattle.std.proofs.lemmas.List.{drop_more, drop_all}
use Rattle.t_types.specs.Tree.{NoRegs, TFile}
use Rattle.t_terms.specs.Tree.{TBlock}
use Rattle.t_gen.specs.Filling.{Job, finish, reserves, jobs}
use Rattle.t_emit.specs.Code.{fill, reserved}
use Rattle.t_gen.proofs.Filled.{fill_length, generated_is}
use Rattle.t_gen_rules.specs.Gen.{code, extras, rows, generated_blocks, ty_args}
use Rattle.a_terms.specs.Bound.{thirds}
use Rattle.t_gen_laws.specs.GenLaws.{length_extras}
use Rattle.a_terms.specs.Tree as a
use Rattle.a_terms.specs.Tree.{arity}
use Rattle.a_terms.specs.Typing.{types_of}
use Rattle.a_terms.specs.Read.{atree, atrees}
use Rattle.a_terms.specs.declared.types.AType.{AType}
use Rattle.a_terms.specs.ReadLaws.{asnoc, atrees_snoc, took}
use Rattle.a_terms.specs.NodeTrees.{a_tree, a_blocks}
use Rattle.a_terms.specs.Arity.{ARow, ARows}
use Rattle.a_terms.specs.declared.nodes.ANode.{ANode}
use Rattle.a_terms.specs.declared.nodes.ABlock.{ABlock}
use Rattle.a_scope.specs.Scope.{shown, scope, homes}
use Rattle.a_scope.specs.declared.scope.Entry.{Entry}
use Rattle.a_scope.proofs.Scopes.{scope_snoc, homes_snoc, length_homes, length_blocks as length_a_blocks}
use Rattle.t_gen.specs.Pending.{body_job}
use Rattle.t_gen_laws.proofs.Covers.{length_rows}
use Rattle.t_emit.proofs.Written.{arity_take}

-- one body, and then others
grows : (prog : a.AProg) (o n : List TBlock) (j : Job) → n ≡ finish prog (length o) o (j ∷ []) →
    length n ≡ length o + thirds j.term
grows prog o n j e =
    let c = code j.names j.places (length o) j.term in
    let es = extras prog j.names j.places j.vars (length o) j.term in
    ap length e ∙ length-append (fill j.block c o) es
    ∙ ap₂ (λ x y. x + y) (fill_length j.block c o) (length_extras prog j.names j.places j.vars (length o) j.term)

pub chain : (prog : a.AProg) (o n : List TBlock) (j : Job) (js : List Job) → n ≡ finish prog (length o) o (j ∷ []) →
    finish prog (length n) n js ≡ finish prog (length o) o (j ∷ js)
chain prog o n j js e = ap₂ (λ i x. finish prog i x js) (grows prog o n j e) e

pub longer : (prog : a.AProg) (o n : List TBlock) (j : Job) → n ≡ finish prog (length o) o (j ∷ []) →
    length o ≤ length n
longer prog o n j e = omega (arith, grows prog o n j e)

length_reserves : (bs : List a.ABlk) → length (reserves bs) ≡ length bs
length_reserves [] = refl
length_reserves (b ∷ bs) = ap suc (length_reserves bs)

pub begins : (prog : a.AProg) (ks : List ABlock) (main : List ANode) (es : List Entry) (o n : List TBlock) →
    a_blocks ks ≡ prog.blocks → o ≡ reserved 0 NoRegs ∷ reserves (a_blocks ks) → es ≡ [] →
    n ≡ finish prog (length o) o (body_job 0 0 (homes es) (scope 0 es) main ∷ []) →
    finish prog (length n) n (jobs 1 (a_blocks ks)) ≡ generated_blocks prog (a_tree main)
begins prog ks main es o n same is none e =
    ap (λ xs. finish prog (length n) n (jobs 1 xs)) same
    ∙ chain prog o n (body_job 0 0 (homes es) (scope 0 es) main) (jobs 1 prog.blocks) e
    ∙ ap₂ (λ x vs. finish prog (length x) x (body_job 0 0 (homes vs) (scope 0 vs) main ∷ jobs 1 prog.blocks))
    (is ∙ ap (λ xs. reserved 0 NoRegs ∷ reserves xs) same) none
    ∙ ap (λ i. finish prog i (reserved 0 NoRegs ∷ reserves prog.blocks) (body_job 0 0 [] [] main ∷ jobs 1 prog.blocks))
    (ap suc (length_reserves prog.blocks))
    ∙ generated_is prog (a_tree main)

pub begins_long : (prog : a.AProg) (ks : List ABlock) (main : List ANode) (es : List Entry) (o n : List TBlock) →
    o ≡ reserved 0 NoRegs ∷ reserves (a_blocks ks) →
    n ≡ finish prog (length o) o (body_job 0 0 (homes es) (scope 0 es) main ∷ []) → suc (length ks) ≤ length n
begins_long prog ks main es o n is e =
    omega (
      arith,
      longer prog o n (body_job 0 0 (homes es) (scope 0 es) main) e,
      ap length is,
      length_reserves (a_blocks ks),
      length_a_blocks ks,
    )

-- one more block
pub block_next : (prog : a.AProg) (ks : List ABlock) (i : ℕ) (k : ABlock) (o n : List TBlock) (all : List TBlock) →
    i < length ks → k ≡ get_or ks i k → n ≡ finish prog (length o) o (jobs (i + 1) (a_blocks (k ∷ []))) →
    finish prog (length o) o (jobs (i + 1) (a_blocks (drop i ks))) ≡ all →
    finish prog (length n) n (jobs (i + 1 + 1) (a_blocks (drop (i + 1) ks))) ≡ all
block_next prog ks i k o n all lt is e h =
    let next : i + 1 + 1 ≡ suc (i + 1) = omega arith in
    let j : Job =
    record {
      block = i + 1;
      names = k.owes;
      places = rows (arity (atrees k.args.items));
      vars = types_of (atrees k.args.items) [];
      term = a_tree k.body.items;
    } in
    ap (λ m. finish prog (length n) n (jobs m (a_blocks (drop (i + 1) ks)))) next
    ∙ chain prog o n j (jobs (suc (i + 1)) (a_blocks (drop (i + 1) ks))) e
    ∙ ap (λ xs. finish prog (length o) o (jobs (i + 1) (a_blocks xs)))
    (sym (drop_more ks i k lt ∙ ap (λ x. x ∷ drop (i + 1) ks) (sym is)))
    ∙ h

pub block_long : (prog : a.AProg) (at : ℕ) (k : ABlock) (o n : List TBlock) →
    n ≡ finish prog (length o) o (jobs at (a_blocks (k ∷ []))) → length o ≤ length n
block_long prog at k o n e =
    longer prog o n
    (record {
      block = at;
      names = k.owes;
      places = rows (arity (atrees k.args.items));
      vars = types_of (atrees k.args.items) [];
      term = a_tree k.body.items;
    }) e

pub blocks_end : (prog : a.AProg) (ks : List ABlock) (i : ℕ) (o all : List TBlock) → length ks ≤ i →
    finish prog (length o) o (jobs (i + 1) (a_blocks (drop i ks))) ≡ all → o ≡ all
blocks_end prog ks i o all le h =
    ap (λ (xs : List ABlock). finish prog (length o) o (jobs (i + 1) (a_blocks xs))) (sym (drop_all i ks le)) ∙ h

pub rows_at : (ks : List ABlock) (i : ℕ) (k : ABlock) → i < length ks → k ≡ get_or ks i k → ARows ks →
    ARow k.body.items 1
rows_at [] i k lt is h = absurd (omega arith)
rows_at (x ∷ ks) zero k lt is h = subst (λ (y : ABlock). ARow y.body.items 1) (sym is) h.0
rows_at (x ∷ ks) (suc i) k lt is h = rows_at ks i k (omega arith) is h.1

-- reserved blocks
reserves_snoc : (ks : List ABlock) (k : ABlock) → reserves (a_blocks (ks ++ k ∷ [])) ≡ reserves (a_blocks ks)
    ++ reserved k.owes (ty_args (atrees k.args.items) 1) ∷ []
reserves_snoc [] k = refl
reserves_snoc (x ∷ ks) k = ap (λ bs. reserved x.owes (ty_args (atrees x.args.items) 1) ∷ bs) (reserves_snoc ks k)

pub reserves_push : (ks : List ABlock) (i : ℕ) (k : ABlock) (o n : List TBlock) (f : TFile) → i < length ks →
    k ≡ get_or ks i k → n ≡ o ++ reserved k.owes f ∷ [] → f ≡ ty_args (atrees k.args.items) 1 →
    o ≡ reserved 0 NoRegs ∷ reserves (a_blocks (take i ks)) →
    n ≡ reserved 0 NoRegs ∷ reserves (a_blocks (take (i + 1) ks))
reserves_push ks i k o n f lt is e g h =
    e ∙ ap₂ (λ x y. x ++ reserved k.owes y ∷ []) h g
    ∙ sym (ap (λ xs. reserved 0 NoRegs ∷ reserves (a_blocks xs)) (took ks i k lt is)
    ∙ ap (λ xs. reserved 0 NoRegs ∷ xs) (reserves_snoc (take i ks) k))

-- arguments
types_snoc : (ts : a.ATys) (t : a.ATy) (g : List a.ATy) → types_of (asnoc ts t) g ≡ t ∷ types_of ts g
types_snoc a.NoATys t g = refl
types_snoc (a.MoreATys u us) t g = types_snoc us t (u ∷ g)

pub argument_push : (k : ℕ) (es new : List Entry) (e : Entry) (ts : List AType) (i : ℕ) (t : AType) → i < length ts →
    t ≡ get_or ts i t → new ≡ es ++ e ∷ [] → e.names ≡ k → shown k e ≡ atree t →
    scope k es ≡ types_of (atrees (take i ts)) [] → scope k new ≡ types_of (atrees (take (i + 1) ts)) []
argument_push k es new e ts i t lt is n names same h =
    ap (scope k) n ∙ scope_snoc k es e ∙ ap₂ (λ u g. u ∷ g) same h
    ∙ sym (ap (λ us. types_of us []) (ap atrees (took ts i t lt is) ∙ atrees_snoc (take i ts) t)
    ∙ types_snoc (atrees (take i ts)) (atree t) [])

-- as many registers as variables
pub homes_rows : (es : List Entry) (n : ℕ) → homes es ≡ rows n → homes es ≡ rows (length es)
homes_rows es n e = e ∙ ap rows (omega (arith, ap length e, length_rows n, length_homes es))

arity_snoc : (ts : a.ATys) (t : a.ATy) → arity (asnoc ts t) ≡ suc (arity ts)
arity_snoc a.NoATys t = refl
arity_snoc (a.MoreATys u us) t = ap suc (arity_snoc us t)

pub home_push : (es new : List Entry) (e : Entry) (ts : List AType) (i : ℕ) (t : AType) → i < length ts →
    t ≡ get_or ts i t → new ≡ es ++ e ∷ [] → e.register ≡ i + 1 → homes es ≡ rows (arity (atrees (take i ts))) →
    homes new ≡ rows (arity (atrees (take (i + 1) ts)))
home_push es new e ts i t lt is n r h =
    let m = arity (atrees (take i ts)) in
    let here : e.register ≡ suc m = omega (arith, r, arity_take ts i (omega arith)) in
    ap homes n ∙ homes_snoc es e ∙ ap₂ (λ q xs. q ∷ xs) here h
    ∙ sym (ap (λ us. rows (arity us)) (ap atrees (took ts i t lt is) ∙ atrees_snoc (take i ts) t)
    ∙ ap rows (arity_snoc (atrees (take i ts)) (atree t)))
