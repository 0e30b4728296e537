-- The line below the one that names two types, piece by piece.
use Rattle.std.proofs.Common.{◌≡◌, ℕ, ◌==◌, false, List, [], ◌∷◌, ◌++◌, Some, refl, sym, ap, ◌∙◌, codes}
use Rattle.std.proofs.lemmas.Bool.{eq-eqb}
use Rattle.std.proofs.lemmas.List.{append_assoc}
use Rattle.f_terms.specs.Ty as source
use Rattle.t_types.specs.Tree as assembly
use Rattle.type_path.specs.Paths.{Path, onto, path_of}
use Rattle.type_path.specs.Source as source_path
use Rattle.type_path.specs.Assembly as assembly_path
use Rattle.type_path.specs.declared.step.Step.{Step}
use Rattle.talc_faults.specs.Apart.{path_text, apart_text, names_at, part_text, source_apart_at, source_below_of}
use Rattle.talc_faults.specs.Apart.{source_below, assembly_part_at, assembly_apart_at, assembly_below_of}
use Rattle.talc_faults.specs.Apart.{assembly_below}

-- ---- a path that is held has a first step where any step is held

begins_from : (xs : List Step) (s : Step) (p : Path) → (r : Step) × (q : Path) × (onto xs (s ∷ p) ≡ r ∷ q)
begins_from [] s p = (s, p, refl)
begins_from (x ∷ xs) s p = begins_from xs x (s ∷ p)

begins : (xs : List Step) → (xs ≡ [] → ⊥) → (r : Step) × (q : Path) × (path_of xs ≡ r ∷ q)
begins [] some = absurd (some refl)
begins (x ∷ xs) some = begins_from xs x []

pub source_at : (names : ℕ) (wanted found : source.Ty) (xs : List Step) → (xs ≡ [] → ⊥) →
    Some (path_of xs) ≡ source_path.difference wanted found →
    source_apart_at names wanted found (path_of xs) ≡ source_below names wanted found
source_at names wanted found xs some e =
    let b = begins xs some in
    ap (source_apart_at names wanted found) b.2
    ∙ sym (ap (λ p. source_below_of names wanted found (Some p)) b.2)
    ∙ ap (source_below_of names wanted found) e

assembly_at : (names : ℕ) (wanted found : assembly.Ty) (xs : List Step) → (xs ≡ [] → ⊥) →
    Some (path_of xs) ≡ assembly_path.misfit wanted found →
    assembly_apart_at names wanted found (path_of xs) ≡ assembly_below names wanted found
assembly_at names wanted found xs some e =
    let b = begins xs some in
    ap (assembly_apart_at names wanted found) b.2
    ∙ sym (ap (λ p. assembly_below_of names wanted found (Some p)) b.2)
    ∙ ap (assembly_below_of names wanted found) e

-- ---- pieces in turn

pieces : (p a b w c f : List ℕ) → p ++ ((a ++ (b ++ w)) ++ (c ++ f)) ≡ (p ++ a) ++ (((b ++ w) ++ c) ++ f)
pieces p a b w c f =
    ap (λ x. p ++ x) (append_assoc a (b ++ w) (c ++ f) ∙ ap (λ x. a ++ x) (sym (append_assoc (b ++ w) c f)))
    ∙ sym (append_assoc p a (((b ++ w) ++ c) ++ f))

pub written : (old p a b w c f l1 l2 l3 l4 whole : List ℕ) → l1 ≡ old ++ p → l2 ≡ l1 ++ (a ++ (b ++ w)) →
    l3 ≡ l2 ++ c → l4 ≡ l3 ++ f → (p ++ a) ++ (((b ++ w) ++ c) ++ f) ≡ whole → l4 ≡ old ++ whole
written old p a b w c f l1 l2 l3 l4 whole e1 e2 e3 e4 h =
    let y = a ++ (b ++ w) in
    let two : l2 ≡ (old ++ p) ++ y = e2 ∙ ap (λ x. x ++ y) e1 in
    let three : l3 ≡ ((old ++ p) ++ y) ++ c = e3 ∙ ap (λ x. x ++ c) two in
    let four : l4 ≡ (((old ++ p) ++ y) ++ c) ++ f = e4 ∙ ap (λ x. x ++ f) three in
    four ∙ append_assoc ((old ++ p) ++ y) c f ∙ append_assoc (old ++ p) y (c ++ f)
    ∙ append_assoc old p (y ++ (c ++ f)) ∙ ap (λ x. old ++ x) (pieces p a b w c f ∙ h)

pub not_none : (n : ℕ) → false ≡ (n == 0) → n ≡ 0 → ⊥
not_none n e h = let test = eq-eqb n 0 h in cc

-- the whole line, where each piece names the path that is held
apart_written : (xs d1 d2 d3 : List Step) (wanted found : Path → List ℕ) (old l1 l2 l3 l4 whole : List ℕ) → d1 ≡ xs →
    d2 ≡ xs → d3 ≡ xs → l1 ≡ old ++ (codes "\n" ++ path_text (path_of d1)) →
    l2 ≡ l1 ++ (codes ": " ++ (codes "wanted " ++ wanted (path_of d2))) → l3 ≡ l2 ++ codes ", found " →
    l4 ≡ l3 ++ found (path_of d3) → apart_text (path_of xs) (wanted (path_of xs)) (found (path_of xs)) ≡ whole →
    l4 ≡ old ++ whole
apart_written xs d1 d2 d3 wanted found old l1 l2 l3 l4 whole s1 s2 s3 e1 e2 e3 e4 h =
    let p = path_of xs in
    written old (codes "\n" ++ path_text p) (codes ": ") (codes "wanted ") (wanted p) (codes ", found ") (found p)
    l1 l2 l3 l4 whole (e1 ∙ ap (λ z. old ++ (codes "\n" ++ path_text (path_of z))) s1)
    (e2 ∙ ap (λ z. l1 ++ (codes ": " ++ (codes "wanted " ++ wanted (path_of z)))) s2) e3
    (e4 ∙ ap (λ z. l3 ++ found (path_of z)) s3) h

pub source_written : (names inner : ℕ) (wanted found : source.Ty) (xs d0 d1 d2 d3 : List Step)
    (old l1 l2 l3 l4 : List ℕ) → d0 ≡ xs → d1 ≡ xs → d2 ≡ xs → d3 ≡ xs → (xs ≡ [] → ⊥) →
    Some (path_of xs) ≡ source_path.difference wanted found → inner ≡ names_at names (path_of d0) →
    l1 ≡ old ++ (codes "\n" ++ path_text (path_of d1)) →
    l2 ≡ l1 ++ (codes ": " ++ (codes "wanted " ++ part_text inner (source_path.part (path_of d2) wanted))) →
    l3 ≡ l2 ++ codes ", found " → l4 ≡ l3 ++ part_text inner (source_path.part (path_of d3) found) →
    l4 ≡ old ++ source_below names wanted found
source_written names inner wanted found xs d0 d1 d2 d3 old l1 l2 l3 l4 s0 s1 s2 s3 some is i e1 e2 e3 e4 =
    let p = path_of xs in
    let same : inner ≡ names_at names p = i ∙ ap (λ z. names_at names (path_of z)) s0 in
    apart_written xs d1 d2 d3 (λ q. part_text inner (source_path.part q wanted))
    (λ q. part_text inner (source_path.part q found)) old l1 l2 l3 l4 (source_below names wanted found)
    s1 s2 s3 e1 e2 e3 e4
    (ap (λ n. apart_text p (part_text n (source_path.part p wanted)) (part_text n (source_path.part p found))) same
    ∙ source_at names wanted found xs some is)

pub assembly_written : (names : ℕ) (wanted found : assembly.Ty) (xs d1 d2 d3 : List Step) (old l1 l2 l3 l4 : List ℕ) →
    d1 ≡ xs → d2 ≡ xs → d3 ≡ xs → (xs ≡ [] → ⊥) → Some (path_of xs) ≡ assembly_path.misfit wanted found →
    l1 ≡ old ++ (codes "\n" ++ path_text (path_of d1)) →
    l2 ≡ l1 ++ (codes ": " ++ (codes "wanted " ++ assembly_part_at names wanted (path_of d2))) →
    l3 ≡ l2 ++ codes ", found " → l4 ≡ l3 ++ assembly_part_at names found (path_of d3) →
    l4 ≡ old ++ assembly_below names wanted found
assembly_written names wanted found xs d1 d2 d3 old l1 l2 l3 l4 s1 s2 s3 some is e1 e2 e3 e4 =
    apart_written xs d1 d2 d3 (assembly_part_at names wanted) (assembly_part_at names found) old l1 l2 l3 l4
    (assembly_below names wanted found) s1 s2 s3 e1 e2 e3 e4 (assembly_at names wanted found xs some is)
