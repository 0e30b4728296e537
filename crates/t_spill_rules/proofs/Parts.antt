-- The code of an instruction, part by part in front of a rest.
use Rattle.std.proofs.Common.{◌≡◌, ℕ, List, [], ◌∷◌, ◌++◌, refl, sym, ap, ◌∙◌, subst}
use Rattle.t_types.specs.Tree.{Ty, TFile}
use Rattle.t_terms.specs.Tree.{TInstr, Arith, Bnz, St, TSeq, Then, TProg}
use Rattle.t_spill_rules.specs.Spill.{Home, Layout, first_reg, second_reg, high_part, target, kept, defines, way, slots}
use Rattle.t_spill_rules.specs.Spill.{before, load, load_value, build, finish, loads, does, step}

pub before_both : (xs ys : List TInstr) (rest : TSeq) → before (xs ++ ys) rest ≡ before xs (before ys rest)
before_both [] ys rest = refl
before_both (i ∷ xs) ys rest = ap (Then i) (before_both xs ys rest)

-- what holds of both lists one after the other holds of the whole
pub joined : (B : TSeq → Type 0) (xs ys : List TInstr) (rest : TSeq) → B (before xs (before ys rest)) →
    B (before (xs ++ ys) rest)
joined B xs ys rest = subst B (sym (before_both xs ys rest))

-- what is loaded, one part in front of the next
abbrev pub loading : ℕ → (ℕ → Home) → TFile → TInstr → TSeq → TSeq
loading m homes high (Arith op rd rs v) rest =
    before (load m (first_reg m) (homes rs)) (before (load_value m homes v) rest)
loading m homes high (Bnz r v) rest =
    before (build m homes high) (before (load m (first_reg m) (homes r)) (before (load_value m homes v) rest))
loading m homes high (St rd i rs) rest =
    before (load m (first_reg m) (homes rd)) (before (load m (second_reg m) (homes rs)) rest)
loading m homes high i rest = before (loads m homes high i) rest

pub loads_are : (m : ℕ) (homes : ℕ → Home) (high : TFile) (i : TInstr) (rest : TSeq) →
    before (loads m homes high i) rest ≡ loading m homes high i rest
loads_are m homes high (Arith op rd rs v) rest = before_both (load m (first_reg m) (homes rs)) _ rest
loads_are m homes high (Bnz r v) rest =
    before_both (build m homes high ++ load m (first_reg m) (homes r)) (load_value m homes v) rest
    ∙ before_both (build m homes high) (load m (first_reg m) (homes r)) _
loads_are m homes high (St rd i rs) rest = before_both (load m (first_reg m) (homes rd)) _ rest
loads_are m homes high _ rest = refl

-- with slots of the types ts, and where `to` is known afterwards
abbrev pub stepped : ℕ → Layout → TFile → TInstr → TSeq → List Ty → TFile → TSeq → TSeq
stepped m L high i c ts to rest =
    loading m L.homes high i (before (does m L.homes i)
    (before (finish m L (defines i) ts to (way m L.used i c)) rest))

pub step_parts : (m : ℕ) (P : TProg) (L : Layout) (x : TFile) (i : TInstr) (c rest : TSeq) →
    before (step m P L x i c) rest
    ≡ before (loads m L.homes (high_part m (target P x i)) i) (before (does m L.homes i)
    (before (finish m L (defines i) (slots m P L.used x (Then i c)) (kept P x i c) (way m L.used i c)) rest))
step_parts m P L x i c rest =
    before_both (loads m L.homes (high_part m (target P x i)) i ++ does m L.homes i)
    (finish m L (defines i) (slots m P L.used x (Then i c)) (kept P x i c) (way m L.used i c)) rest
    ∙ before_both (loads m L.homes (high_part m (target P x i)) i) (does m L.homes i) _

pub step_is : (m : ℕ) (P : TProg) (L : Layout) (x : TFile) (i : TInstr) (c rest : TSeq) →
    before (step m P L x i c) rest
    ≡ stepped m L (high_part m (target P x i)) i c (slots m P L.used x (Then i c)) (kept P x i c) rest
step_is m P L x i c rest = step_parts m P L x i c rest ∙ loads_are m L.homes (high_part m (target P x i)) i _
