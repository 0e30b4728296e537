-- Along a block: what is left of it, and what is wanted.
use Rattle.std.proofs.Common.{◌≡◌, ℕ, zero, suc, ◌+◌, ◌<◌, ◌≤◌, List, [], ◌∷◌, ◌++◌, refl, sym, ap, ap₂, ◌∙◌}
use Rattle.std.proofs.Common.{length, get_or, arith, subst}
use Rattle.idx_core.specs.declared.span.Span.{Span}
use Rattle.t_types.specs.Tree.{TFile}
use Rattle.t_terms.specs.Tree.{TInstr, TEnd, TSeq, Then, Ends, TProg, names_after}
use Rattle.t_terms.specs.Spanned.{seq_of}
use Rattle.t_terms.specs.Read.{instr, body, end_of}
use Rattle.t_terms.specs.declared.instr.Instr.{Instr}
use Rattle.t_terms.specs.declared.instr.End.{End}
use Rattle.t_spill_rules.specs.Spill.{live, numbers, target, end_target, reads, end_reads, next}
use Rattle.t_spill_code.specs.Onto.{onto}
use Rattle.t_spill.specs.Tails.{tail_of}
use Rattle.t_spill.specs.Wants.{join}
use Rattle.t_spill.specs.Ready.{ReadyInstr, ReadyEnd, Ready}
use Rattle.t_spill.proofs.Wants.{join_is}

tail_suc : (xs : List (Instr × Span)) (e : End) (i : ℕ) (d : Instr × Span) → i < length xs → tail_of xs e i
    ≡ Then (instr (get_or xs i d).0) (tail_of xs e (suc i))
tail_suc [] e i d lt = absurd (omega arith)
tail_suc (x ∷ xs) e zero d lt = refl
tail_suc (x ∷ xs) e (suc i) d lt = tail_suc xs e i d (omega arith)

pub tail_at : (xs : List (Instr × Span)) (e : End) (i : ℕ) (d : Instr × Span) → i < length xs → tail_of xs e i
    ≡ Then (instr (get_or xs i d).0) (tail_of xs e (i + 1))
tail_at xs e i d lt =
    let one : suc i ≡ i + 1 = omega arith in
    tail_suc xs e i d lt ∙ ap (λ n. Then (instr (get_or xs i d).0) (tail_of xs e n)) one

pub tail_one : (xs : List (Instr × Span)) (e : End) (i : ℕ) (x : Instr × Span) → i < length xs → x ≡ get_or xs i x →
    tail_of xs e i ≡ Then (instr x.0) (tail_of xs e (i + 1))
tail_one xs e i x lt is =
    let one : suc i ≡ i + 1 = omega arith in
    tail_suc xs e i x lt ∙ ap₂ (λ (y : Instr × Span) n. Then (instr y.0) (tail_of xs e n)) (sym is) one

pub tail_end : (xs : List (Instr × Span)) (e : End) (i : ℕ) → length xs ≤ i → tail_of xs e i ≡ Ends (end_of e)
tail_end [] e zero le = refl
tail_end [] e (suc i) le = refl
tail_end (x ∷ xs) e zero le = absurd (omega arith)
tail_end (x ∷ xs) e (suc i) le = tail_end xs e i (omega arith)

assoc : (xs ys zs : List ℕ) → xs ++ ys ++ zs ≡ join xs (join ys zs)
assoc [] ys zs = sym (join_is ys zs)
assoc (x ∷ xs) ys zs = ap (λ (ws : List ℕ). x ∷ ws) (assoc xs ys zs)

none_more : (xs ys : List ℕ) → xs ++ ys ≡ join xs (join ys [])
none_more [] ys = more ys
  where
    more : (ys : List ℕ) → ys ≡ join ys []
    more [] = refl
    more (y ∷ ys) = ap (λ (ws : List ℕ). y ∷ ws) (more ys)
none_more (x ∷ xs) ys = ap (λ (ws : List ℕ). x ∷ ws) (none_more xs ys)

pub live_then : (P : TProg) (x : TFile) (i : TInstr) (c : TSeq) → live P x (Then i c) ≡ join (reads i)
    (join (numbers (target P x i)) (live P (next P x i) c))
live_then P x i c = assoc (reads i) (numbers (target P x i)) (live P (next P x i) c)

pub live_end : (P : TProg) (x : TFile) (e : TEnd) → live P x (Ends e) ≡ join (end_reads e)
    (join (numbers (end_target P x e)) [])
live_end P x e = none_more (end_reads e) (numbers (end_target P x e))

-- the instruction that is next, and what comes after it
pub ready_here : (P : TProg) (n : ℕ) (x : TFile) (xs : List (Instr × Span)) (e : End) (i : ℕ) (y : Instr × Span) →
    i < length xs → y ≡ get_or xs i y → Ready P n x (tail_of xs e i) →
    ReadyInstr P n x (instr y.0) × Ready P (names_after (instr y.0) n) (next P x (instr y.0)) (tail_of xs e (i + 1))
ready_here P n x xs e i y lt is h = subst (Ready P n x) (tail_one xs e i y lt is) h

pub ready_end : (P : TProg) (n : ℕ) (x : TFile) (xs : List (Instr × Span)) (e : End) (i : ℕ) → length xs ≤ i →
    Ready P n x (tail_of xs e i) → ReadyEnd P n x (end_of e)
ready_end P n x xs e i le h = subst (Ready P n x) (tail_end xs e i le) h

pub wants_next : (P : TProg) (x z : TFile) (xs : List (Instr × Span)) (e : End) (i : ℕ) (y : Instr × Span)
    (old new all : List ℕ) → i < length xs → y ≡ get_or xs i y → z ≡ next P x (instr y.0) →
    ((rest : List ℕ) → join new rest
    ≡ join old (join (reads (instr y.0)) (join (numbers (target P x (instr y.0))) rest))) →
    join old (live P x (tail_of xs e i)) ≡ all → join new (live P z (tail_of xs e (i + 1))) ≡ all
wants_next P x z xs e i y old new all lt is same noted h =
    ap (λ w. join new (live P w (tail_of xs e (i + 1)))) same
    ∙ noted (live P (next P x (instr y.0)) (tail_of xs e (i + 1)))
    ∙ ap (join old) (sym (live_then P x (instr y.0) (tail_of xs e (i + 1))))
    ∙ ap (λ c. join old (live P x c)) (sym (tail_one xs e i y lt is))
    ∙ h

pub join_none : (xs : List ℕ) → xs ≡ join xs []
join_none [] = refl
join_none (x ∷ xs) = ap (λ (ws : List ℕ). x ∷ ws) (join_none xs)

pub wants_all : (P : TProg) (x : TFile) (xs : List (Instr × Span)) (e : End) (i : ℕ) (f : TFile)
    (old mid new all : List ℕ) → length xs ≤ i → f ≡ end_target P x (end_of e) →
    ((rest : List ℕ) → join mid rest ≡ join old (join (end_reads (end_of e)) rest)) →
    ((rest : List ℕ) → join new rest ≡ join mid (join (numbers f) rest)) → join old (live P x (tail_of xs e i))
    ≡ all → new ≡ all
wants_all P x xs e i f old mid new all le same first second h =
    join_none new ∙ second [] ∙ first (join (numbers f) [])
    ∙ ap (λ g. join old (join (end_reads (end_of e)) (join (numbers g) []))) same
    ∙ ap (join old) (sym (live_end P x (end_of e))) ∙ ap (λ c. join old (live P x c)) (sym (tail_end xs e i le)) ∙ h

-- instructions in front of an end are a body with it
pub onto_body : (xs : List (Instr × Span)) (e : TEnd) → onto xs (Ends e) ≡ seq_of (body xs) e
onto_body [] e = refl
onto_body (x ∷ xs) e = ap (Then (instr x.0)) (onto_body xs e)
