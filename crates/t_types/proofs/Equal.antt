-- Two files, and the fields of two tuples, are equal exactly where their first parts and the rest are.
use Rattle.std.proofs.Common.{◌≡◌, ℕ, suc, List, [], ◌∷◌, length, Bool, true, false, refl, ap, ap₂, ◌∙◌, not}
use mathlib.Core.Bool.{beq}
use Rattle.t_types.specs.declared.types.TType.{TType}
use Rattle.t_types.specs.Tree.{MoreRegs, MoreFields}
use Rattle.t_types.specs.Read.{tree, file, fields}

abbrev pub SameReg : ℕ × TType → ℕ × TType → Type 0
SameReg x y = (x.0 ≡ y.0) × (tree x.1 ≡ tree y.1)

abbrev pub SameField : TType × Bool → TType × Bool → Type 0
SameField x y = (tree x.0 ≡ tree y.0) × (x.1 ≡ y.1)

pub regs_len : (a b : List (ℕ × TType)) → file a ≡ file b → length a ≡ length b
regs_len [] [] h = refl
regs_len (x ∷ a) (y ∷ b) h = let e : file a ≡ file b = cc in ap suc (regs_len a b e)
regs_len [] (y ∷ b) h = cc
regs_len (x ∷ a) [] h = cc

abbrev pub SameRegs : List (ℕ × TType) → List (ℕ × TType) → Type 0
SameRegs a b = file a ≡ file b

pub regs_more : (x y : ℕ × TType) (a b : List (ℕ × TType)) → SameReg x y → SameRegs a b → SameRegs (x ∷ a) (y ∷ b)
regs_more x y a b here rest =
    ap₂ (λ r t. MoreRegs r t (file a)) here.0 here.1 ∙ ap (MoreRegs y.0 (tree y.1)) rest

pub regs_parts : (x y : ℕ × TType) (a b : List (ℕ × TType)) → SameRegs (x ∷ a) (y ∷ b) → SameReg x y × SameRegs a b
regs_parts x y a b h =
    let e1 : tree x.1 ≡ tree y.1 = cc in
    let e2 : x.0 ≡ y.0 = cc in
    let e3 : file a ≡ file b = cc in ((e2, e1), e3)

pub fields_len : (a b : List (TType × Bool)) → fields a ≡ fields b → length a ≡ length b
fields_len [] [] h = refl
fields_len (x ∷ a) (y ∷ b) h = let e : fields a ≡ fields b = cc in ap suc (fields_len a b e)
fields_len [] (y ∷ b) h = cc
fields_len (x ∷ a) [] h = cc

abbrev pub SameFields : List (TType × Bool) → List (TType × Bool) → Type 0
SameFields a b = fields a ≡ fields b

pub fields_more : (x y : TType × Bool) (a b : List (TType × Bool)) → SameField x y → SameFields a b →
    SameFields (x ∷ a) (y ∷ b)
fields_more x y a b here rest =
    ap₂ (λ t flag. MoreFields t flag (fields a)) here.0 here.1 ∙ ap (MoreFields (tree y.0) y.1) rest

pub fields_parts : (x y : TType × Bool) (a b : List (TType × Bool)) → SameFields (x ∷ a) (y ∷ b) →
    SameField x y × SameFields a b
fields_parts x y a b h =
    let e1 : tree x.0 ≡ tree y.0 = cc in
    let e2 : x.1 ≡ y.1 = cc in
    let e3 : fields a ≡ fields b = cc in ((e1, e2), e3)

pub not_same : (x y : Bool) → not (beq x y) ≡ true → x ≡ y → ⊥
not_same true true h e = cc
not_same false false h e = cc
not_same true false h e = cc
not_same false true h e = cc

pub same : (x y : Bool) → not (beq x y) ≡ false → x ≡ y
same true true h = refl
same false false h = refl
same true false h = cc
same false true h = cc
