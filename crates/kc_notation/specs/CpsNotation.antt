-- How types are written in continuation-passing style (own choice): without closures.
use Rattle.std.specs.Prelude.{ℕ, Bool, true, false, List, [], ◌++◌, codes}
use Rattle.k_terms.specs.K.{KTy}
pub use Rattle.let_types.specs.TypeTexts.{plain_text as type_text, plain_texts as types_text}

-- what stands behind a name that is given to a value of this type, where types are shown
abbrev pub note_text : Bool → ℕ → KTy → List ℕ
note_text true n t = codes ": " ++ type_text n t
note_text false n t = []
