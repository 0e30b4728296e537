-- How the whole evaluation ends, the run of its translation ends.
use Rattle.std.proofs.Common.{ℤ, ◌≡◌, ℕ, ◌+◌, ◌≤◌, inl, inr, [], refl, sym, ap, ◌∙◌, subst, arith, ⊎_elim}
use Rattle.calc_core.specs.Ends as B
use Rattle.k_terms.specs.K.{KVal, KTm, KHalt}
use Rattle.calc_core.specs.Words.{NoWords}
use Rattle.k_terms.specs.Meaning.{KWords, kv_value, krun}
use Rattle.f_terms.specs.Ty.{TInt, NoTys}
use Rattle.f_terms.specs.Tm.{Term}
use Rattle.f_terms.specs.Eval.{Val, VInt, VTup, VFun, VSus, VCell, Vals, Empty, Result, Gives, Spent, Stuck, enter_by}
use Rattle.f_terms.specs.Eval.{eval, Evaluates, IsSpent}
use Rattle.k_laws.specs.Translates.{Bind, halting, cps_program}
use Rattle.k_laws.specs.Count.{count}
use Rattle.k_laws.specs.Correct.{KeepsMeaning}
use Rattle.f_terms.specs.Laws.{NeverStuck}
use Rattle.f_terms.specs.Typing.{IsProgram}
use Rattle.k_laws.proofs.Contexts.{head_typed}
use Rattle.k_laws.proofs.Runs.{run, Less, less_by, fewer_by}
use Rattle.k_laws.proofs.Related.{Rel, ext_same, gives}
use Rattle.k_laws.proofs.Endings.{AtInt, AtSpent, AtStuck, End, Ends_as, Does, Ready}
use Rattle.k_laws.proofs.Sim.{sim, enter_ok}

-- how an evaluation ends, for the whole program
abbrev end_of : Result → End
end_of (Gives (VInt i) m st) = AtInt i
end_of (Gives (VTup vs) m st) = AtStuck
end_of (Gives (VCell i) m st) = AtStuck
end_of (Gives (VFun env body) m st) = AtStuck
end_of (Gives (VSus env body) m st) = AtStuck
end_of Spent = AtSpent
end_of Stuck = AtStuck

halt_at : (c n : ℕ) (v : Val) (m : ℕ) (st : Vals) (b : ℕ) (big kst : KWords) (k : KVal) → Rel v (kv_value b k big) →
    (u : ℕ) → Ends_as c (end_of (Gives v m st)) (end_of (Gives v m st)) n u (λ j. run j b big (KHalt k) kst)
halt_at c n (VInt i) m st b big kst k r u = (0, rw r refl, rw r (omega arith))
halt_at c n (VTup vs) m st b big kst k r u = tt
halt_at c n (VCell i) m st b big kst k r u = tt
halt_at c n (VFun env body) m st b big kst k r u = tt
halt_at c n (VSus env body) m st b big kst k r u = tt

halt_ready : (c n : ℕ) (r : Result) → Ready c (end_of r) 0 (Bind [] TInt halting) NoWords n r
halt_ready c n (Gives v m st) =
    λ le. record {
      ready = λ b td big x t e d h. subst (λ t. Does c (end_of (Gives v m st)) 0 m b big st t) (sym h.2)
          (record {
            does = λ kst rs u q. halt_at c m v m st b big kst h.0 (gives x big v d td big (ext_same big) b h.0 h.1)
                (0 + u);
          });
    }
halt_ready c n Spent = record { is = refl }
halt_ready c n Stuck = record { is = refl }

top : (c n : ℕ) (e : Term) (m : KTm) → cps_program e m →
    Ends_as c (end_of (eval n Empty Empty e)) (end_of (eval n Empty Empty e)) n 1 (λ j. krun j m)
top c n e m t =
    (sim c (end_of (eval n Empty Empty e)) (enter_by n) n (enter_ok c (end_of (eval n Empty Empty e)) n) e n 0 0 Empty
    NoWords Empty [] (Bind [] TInt halting) m 0 [] NoTys TInt 0 t tt tt (omega arith)
    (halt_ready c n (eval n Empty Empty e))).does NoWords refl 1 (λ p q. omega arith)

-- a run that is over stays as it is
over_later : (j k : ℕ) (t : KTm) → ((krun j t).end ≡ B.Spent → ⊥) → krun (k + j) t ≡ krun j t
over_later j k t h = go (less_by j k 0 NoWords t NoWords)
  where
    go : Less (run j 0 NoWords t NoWords) (run (k + j) 0 NoWords t NoWords) → krun (k + j) t ≡ krun j t
    go (inl e) = sym e
    go (inr o) = absurd (h o)

halted_not_spent : (i : ℤ) (e : B.End) → e ≡ B.Halted i → e ≡ B.Spent → ⊥
halted_not_spent i e h k = impossible (sym h ∙ k)
  where
    impossible : B.Halted i ≡ B.Spent → ⊥
    impossible q = cc

-- two runs that are over are one
one_end : (j k : ℕ) (t : KTm) → ((krun j t).end ≡ B.Spent → ⊥) → ((krun k t).end ≡ B.Spent → ⊥) → krun j t ≡ krun k t
one_end j k t h h' =
    let c : k + j ≡ j + k = omega arith in
    sym (over_later j k t h) ∙ ap (λ n. krun n t) c ∙ over_later k j t h'

same_int : (i j : ℤ) → B.Halted i ≡ B.Halted j → i ≡ j
same_int i j e = cc

forth_of : (e : Term) (m : KTm) → cps_program e m → (c n : ℕ) (i : ℤ) (left : ℕ) (st : Vals) →
    eval n Empty Empty e ≡ Gives (VInt i) left st → (calls : ℕ) × ((krun calls m).end ≡ B.Halted i)
    × (count c (krun calls m).entered ≤ n + 1)
forth_of e m t c n i left st h = subst (λ r. Ends_as c (end_of r) (end_of r) n 1 (λ j. krun j m)) h (top c n e m t)

back_of : NeverStuck → (e : Term) (m : KTm) → cps_program e m → IsProgram e → (calls : ℕ) (i : ℤ) →
    (krun calls m).end ≡ B.Halted i → Evaluates e calls i
back_of never e m t typed calls i h = ⊎_elim halts runs (never e typed calls)
  where
    halts : (j : ℤ) × Evaluates e calls j → Evaluates e calls i
    halts v =
        let f = forth_of e m t 0 calls v.0 v.1.0 v.1.1.0 v.1.1.1 in
        let over = halted_not_spent v.0 _ f.1 in
        let same = sym f.1 ∙ ap (λ x. x.end) (one_end f.0 calls m over (halted_not_spent i _ h)) ∙ h in
        subst (Evaluates e calls) (same_int v.0 i same) v.1

    runs : IsSpent e calls → Evaluates e calls i
    runs out =
        let s = subst (λ r. Ends_as 0 (end_of r) (end_of r) calls 1 (λ j. krun j m)) out (top 0 calls e m t) in
        absurd (halted_not_spent i _ h s)

-- within any number of calls, no more is entered than in a run that is over
most : (c n j calls : ℕ) (t : KTm) → ((krun j t).end ≡ B.Spent → ⊥) → count c (krun j t).entered ≤ n →
    count c (krun calls t).entered ≤ n
most c n j calls t over le =
    let e : calls + j ≡ j + calls = omega arith in
    let x = fewer_by c calls j 0 NoWords t NoWords in
    let y : count c (krun (calls + j) t).entered ≤ n =
    subst (λ r. count c r.entered ≤ n) (sym (over_later j calls t over)) le in
    let z : count c (run (j + calls) 0 NoWords t NoWords).entered ≤ n =
    subst (λ k. count c (run k 0 NoWords t NoWords).entered ≤ n) e y in
    omega (arith, x, z)

pub kept : NeverStuck → KeepsMeaning
kept never e m t =
    record {
      forth = λ n i h. let f = forth_of e m t 0 n i h.0 h.1.0 h.1.1 in (f.0, f.1);
      back = λ calls i h. back_of never e m t (head_typed e 0 [] NoTys TInt 0 0 [] _ m t) calls i h;
      seldom = λ n i calls c h. let f = forth_of e m t c n i h.0 h.1.0 h.1.1 in
          most c (n + 1) f.0 calls m (halted_not_spent i _ f.1) f.2;
    }
