-- Lists that are made one by one.
use Rattle.std.proofs.Common.{◌≡◌, List, [], ◌∷◌, ◌++◌, refl, ap}
use Rattle.c_rules.specs.Know as W
use Rattle.c_rules.specs.Emit as E
use Rattle.c_emit.specs.declared.parts.Info.{Info}
use Rattle.c_emit.specs.declared.parts.Note.{Note}
use Rattle.c_emit.specs.Read.{info, note, infos_of, notes_of}
use Rattle.c_pass.specs.declared.state.Clue.{Clue}
use Rattle.c_pass.specs.Read.{clue, clues_of, clues_onto, infos_onto, notes_onto}

pub clues_push : (xs : List Clue) (x : Clue) (rest : List W.Clue) →
    clues_onto (xs ++ x ∷ []) rest ≡ clues_onto xs (clue x ∷ rest)
clues_push [] x rest = refl
clues_push (y ∷ xs) x rest = ap (λ (ys : List W.Clue). clue y ∷ ys) (clues_push xs x rest)

pub clues_all : (xs : List Clue) → clues_onto xs [] ≡ clues_of xs
clues_all [] = refl
clues_all (y ∷ xs) = ap (λ (ys : List W.Clue). clue y ∷ ys) (clues_all xs)

pub infos_all : (xs : List Info) → infos_onto xs [] ≡ infos_of xs
infos_all [] = refl
infos_all (y ∷ xs) = ap (λ (ys : List E.Info). info y ∷ ys) (infos_all xs)

pub notes_all : (xs : List Note) → notes_onto xs [] ≡ notes_of xs
notes_all [] = refl
notes_all (y ∷ xs) = ap (λ (ys : List E.Note). note y ∷ ys) (notes_all xs)
