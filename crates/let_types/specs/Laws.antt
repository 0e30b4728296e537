-- The types that are computed are those of typing.
use Rattle.std.specs.Prelude.{◌≡◌, ℕ, List}
use Rattle.k_terms.specs.K.{KTy, KDecl}
use Rattle.k_terms.specs.Types.{kd_type}
use Rattle.k_terms.specs.Typing.{KGives}
use Rattle.c_terms.specs.C.{CTy, CDecl}
use Rattle.c_terms.specs.Typing.{CGives}
use Rattle.h_terms.specs.H.{HBlks, HDecl}
use Rattle.h_terms.specs.Typing.{HGives}
use Rattle.let_types.specs.Closed as c
use Rattle.let_types.specs.Hoisted as h

-- what a typed declaration names has the type that is computed for it
abbrev pub CpsTypes : Type 0
CpsTypes = (n : ℕ) (g : List KTy) (x : KDecl) (t : KTy) → KGives n g x t → kd_type g x ≡ t

abbrev pub ClosedTypes : Type 0
ClosedTypes = (n : ℕ) (g : List CTy) (x : CDecl) (t : CTy) → CGives n g x t → c.decl_type g x ≡ t

abbrev pub HoistedTypes : Type 0
HoistedTypes =
    (ks : HBlks) (n : ℕ) (g : List CTy) (x : HDecl) (t : CTy) → HGives ks n g x t → h.decl_type ks g x ≡ t
