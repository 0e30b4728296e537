-- What is said of differences.
use Rattle.std.specs.Prelude.{◌≡◌, ◌↔◌, ℕ, Some, None}
use Rattle.f_terms.specs.Ty.{Ty}
use Rattle.t_types.specs.Tree as assembly_tree
use Rattle.t_types.specs.Fits.{Fits}
use Rattle.t_types.specs.WellFormed.{WellFormed}
use Rattle.type_path.specs.Paths.{Path, IsFirst}
use Rattle.type_path.specs.Source as source
use Rattle.type_path.specs.Assembly as assembly

-- a path is found exactly where two types of the source first differ
abbrev pub SourceFirst : Type 0
SourceFirst = (a b : Ty) (p : Path) → source.difference a b ≡ Some p ↔ IsFirst (source.heads a) (source.heads b) p

-- they differ at one path first, at most
abbrev pub SourceOne : Type 0
SourceOne = (a b : Ty) (p q : Path) → IsFirst (source.heads a) (source.heads b) p →
    IsFirst (source.heads a) (source.heads b) q → p ≡ q

-- none is found exactly where they are equal
abbrev pub SourceNone : Type 0
SourceNone = (a b : Ty) → source.difference a b ≡ None ↔ a ≡ b

-- the same of two types of a program, whose files have their registers in order
abbrev pub AssemblyFirst : Type 0
AssemblyFirst = (a b : assembly_tree.Ty) (n m : ℕ) → WellFormed n a → WellFormed m b → (p : Path) →
    assembly.difference a b ≡ Some p ↔ IsFirst (assembly.heads a) (assembly.heads b) p

abbrev pub AssemblyNone : Type 0
AssemblyNone = (a b : assembly_tree.Ty) → assembly.difference a b ≡ None ↔ a ≡ b

-- of a type that is found where another one is wanted, a path is found exactly where it first does not do what is
-- asked, and none exactly where it fits
abbrev pub MisfitFirst : Type 0
MisfitFirst = (wanted found : assembly_tree.Ty) (n m : ℕ) → WellFormed n wanted → WellFormed m found → (p : Path) →
    assembly.misfit wanted found ≡ Some p
    ↔ IsFirst (assembly.heads (assembly.asked wanted found)) (assembly.heads found) p

abbrev pub MisfitNone : Type 0
MisfitNone = (wanted found : assembly_tree.Ty) → assembly.misfit wanted found ≡ None ↔ Fits found wanted

-- what is asked at that place is what is wanted there, so that the parts of the two types themselves are at odds
abbrev pub MisfitShown : Type 0
MisfitShown = (wanted found : assembly_tree.Ty) (p : Path) → assembly.misfit wanted found ≡ Some p →
    assembly.part p (assembly.asked wanted found) ≡ assembly.part p wanted
