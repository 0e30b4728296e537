-- What is made of a program's nodes one by one, on the sheets of `c_notation`: the nodes of a term make the text of
-- that term, with types or without; what others make is of no matter.
use Rattle.std.specs.Prelude.{ℕ, ◌+◌, List, [], ◌∷◌, ◌++◌, Bool, codes, decimal, false}
use Rattle.page_core.specs.Names.{number, op_sign, value_name}
use Rattle.k_terms.specs.K.{KTy, KTys, NoKTys, TKInt, TKTuple}
use Rattle.k_terms.specs.Stream.{KNd, NVar, NInt, NTuple, NCode, NEnd, NName, NProj, NArith, NPack, NUnpack, NCell}
use Rattle.k_terms.specs.Stream.{NGet, NSet, NCall, NIf, NElse, NHalt}
use Rattle.kc_notation.specs.ClosedWalk.{Sheet, begun, called, choose, declare, leave, line, opened, pair, push, tuple}
use Rattle.kc_notation.specs.ClosedWalk.{turn, unpack, wrap}
use Rattle.kc_notation.specs.CpsNotation.{note_text, type_text, types_text}
use Rattle.kc_notation.specs.Heads.{code_line}

-- what stands behind a name of this type
abbrev pub noted : Bool → Sheet → KTy → List ℕ
noted b p t = note_text b p.body.scope.types t

-- a package of the last value
abbrev pub packed : Sheet → KTy → KTy → Sheet
packed p hidden shape =
    wrap p (codes "pack [" ++ (type_text p.body.scope.types hidden ++ codes ", "))
    (codes "] as " ++ type_text p.body.scope.types shape)

abbrev pub call : Sheet → KTys → Sheet
call p ts = called (line p (begun p []) (codes "[" ++ (types_text p.body.scope.types ts ++ codes "](")))

-- a code begins
abbrev pub enter : Sheet → ℕ → ℕ → KTys → Sheet
enter p level owes args = opened p (code_line false p.body.scope.types level owes args) (p.body.scope.types + owes)

-- one node more
abbrev pub step : Bool → KNd → Sheet → Sheet
step b (NVar l) p = push p (value_name l)
step b (NInt z) p = push p (number z)
step b (NTuple n) p = tuple p n
step b (NCode l d owes args) p = enter p l owes args
step b NEnd p = leave p p.around
step b (NName l t) p = declare p l (noted b p t) []
step b (NProj l i t) p = declare p l (noted b p t) (codes "#" ++ (decimal i ++ codes " "))
step b (NArith l op) p = declare (pair p (op_sign op)) l (noted b p TKInt) []
step b (NPack l d h s) p = declare (packed p h s) l (noted b p s) []
step b (NUnpack l d t) p = unpack p l (note_text b (p.body.scope.types + 1) t)
step b (NCell l t) p = declare p l (noted b p t) (codes "ref ")
step b (NGet l t) p = declare p l (noted b p t) (codes "!")
step b (NSet l) p = declare (pair p (codes " := ")) l (noted b p (TKTuple NoKTys)) []
step b (NCall l d ts n) p = call p ts
step b NIf p = choose p
step b (NElse d) p = turn p p.body.branches
step b NHalt p = line p (begun p (codes "halt ")) (codes "\n")

abbrev pub walk : Bool → List KNd → Sheet → Sheet
walk b [] p = p
walk b (n ∷ ns) p = walk b ns (step b n p)
