-- The trees of what holds a vector, by the vector's items.
use Rattle.std.proofs.Common.{◌≡◌, ℕ, List, [], ◌∷◌, ◌++◌, map, Vec, Global, refl, ap, ◌∙◌, Bool}
use Rattle.std.proofs.lemmas.List.{map-append}
use mathlib.Core.Former.{Count}
use Rattle.idx_core.specs.declared.span.Span.{Span}
use Rattle.t_text.specs.Raw.{RCode, RTuple, MoreRawRegs, MoreRawFields, raw_regs, raw_fields}
use Rattle.t_text.specs.declared.token.Token.{Token}
use Rattle.t_text.specs.GrammarTable.{register_of, flag_of, reg_of, field_of}
use Rattle.t_shapes.specs.declared.raw_types.RawType.{RawType, Row_of-RawFile-regs-3 as RegRow}
use Rattle.t_shapes.specs.declared.raw_types.RawType.{end_of-RawFile-regs-3 as end_of_regs}
use Rattle.t_shapes.specs.declared.raw_types.RawType.{more_of-RawFile-regs-3 as more_of_regs}
use Rattle.t_shapes.specs.declared.raw_types.RawType.{Row_of-RawType-Tuple-0-2 as FieldRow}
use Rattle.t_shapes.specs.declared.raw_types.RawType.{end_of-RawType-Tuple-0-2 as end_of_fields}
use Rattle.t_shapes.specs.declared.raw_types.RawType.{more_of-RawType-Tuple-0-2 as more_of_fields}
use Rattle.t_shapes.specs.declared.raw_types.RawType.{items-the_row-RawType-Tuple-0-2}
use Rattle.t_shapes.specs.declared.raw_types.RawType.{items_hidden-the_row-RawType-Tuple-0-2-1}
use Rattle.t_shapes.specs.declared.raw_types.RawType.{items-the_row-RawFile-regs-3}
use Rattle.t_shapes.specs.declared.raw_types.RawType.{items_hidden-the_row-RawFile-regs-3-0}
use Rattle.t_shapes.specs.declared.raw_types.RawType.TheVariants.{Code, Tuple, Code', Tuple'}
use Rattle.t_shapes.specs.declared.raw_types.RawFile.{RawFile}
use Rattle.t_shapes.specs.RawTypes.{raw, row_regs, row_fields, raw_reg, raw_field, raw_file}

abbrev field_row : RawType → (n : Count) × FieldRow n
field_row (Tuple' _ row) = (_, row)
field_row _ = (_, end_of_fields)

abbrev reg_row : RawType → (n : Count) × RegRow n
reg_row (Code' _ _ row) = (_, row)
reg_row _ = (_, end_of_regs)

regs_items : (n : Count) (row : RegRow n) → row_regs row ≡ raw_regs (map raw_reg (items-the_row-RawFile-regs-3 n row))
regs_items n end_of_regs = refl
regs_items n (more_of_regs r s t rest) = ap (MoreRawRegs r s (raw t)) (regs_items _ rest)

fields_items : (n : Count) (row : FieldRow n) →
    row_fields row ≡ raw_fields (map raw_field (items-the_row-RawType-Tuple-0-2 n row))
fields_items n end_of_fields = refl
fields_items n (more_of_fields t b rest) = ap (MoreRawFields (raw t) b) (fields_items _ rest)

pub raw_Tuple : (v : Vec (RawType × Bool) Global) → raw (Tuple v) ≡ RTuple (raw_fields (map raw_field v.items))
raw_Tuple v =
    let row = field_row (Tuple v) in
    ap RTuple (fields_items row.0 row.1
    ∙ ap (λ (xs : List (RawType × Bool)). raw_fields (map raw_field xs))
    (items_hidden-the_row-RawType-Tuple-0-2-1 v))

pub raw_Code : (names : Vec Span Global) (f : RawFile) → raw (Code names f) ≡ RCode names.items (raw_file f)
raw_Code names f =
    let row = reg_row (Code names f) in
    ap (RCode names.items)
    (regs_items row.0 row.1
    ∙ ap (λ (xs : List (ℕ × Span × RawType)). raw_regs (map raw_reg xs))
    (items_hidden-the_row-RawFile-regs-3-0 f.regs))

pub regs_more : (xs ys : List (ℕ × Span × RawType)) (x : ℕ × Span × RawType) → ys ≡ xs ++ x ∷ [] →
    map raw_reg ys ≡ map raw_reg xs ++ raw_reg x ∷ []
regs_more xs ys x e = ap (λ (zs : List (ℕ × Span × RawType)). map raw_reg zs) e ∙ map-append raw_reg xs (x ∷ [])

pub fields_more : (xs ys : List (RawType × Bool)) (x : RawType × Bool) → ys ≡ xs ++ x ∷ [] →
    map raw_field ys ≡ map raw_field xs ++ raw_field x ∷ []
fields_more xs ys x e = ap (λ (zs : List (RawType × Bool)). map raw_field zs) e ∙ map-append raw_field xs (x ∷ [])

-- an entry of a file, and a field
pub reg_is : (x : ℕ × Span) (r : Token) (t : RawType) → x ≡ (register_of r.kind, r.span) →
    raw_reg (x.0, x.1, t) ≡ reg_of r (raw t)
reg_is x r t e = rw e refl

pub field_is : (b : Bool) (n : Token) (t : RawType) → b ≡ flag_of n.kind → raw_field (t, b) ≡ field_of (raw t) n
field_is b n t e = rw e refl
