-- Each code put back for its label, and inside the code its own name; and labels in the order of the text.
use Rattle.std.specs.Prelude.{◌≡◌, ◌≢◌, pos, ℕ, zero, suc, Bool, true, false, cond, nat_eq, nat_lt, List, [], ◌∷◌}
use Rattle.std.specs.Prelude.{◌++◌}
use Rattle.c_terms.specs.C.{CApply, CArith, CCall, CCell, CCode, CDecl, CGet, CHalt, CIf, CInt, CLet, CName, CPack}
use Rattle.c_terms.specs.C.{CProj, CSet, CTm, CTuple, CUnpack, CVal, CVals, CVar, MoreCVals, NoCTys, NoCVals}
use Rattle.c_terms.specs.C.{ccount, cd_next, ct_next, cv_next}
use Rattle.h_terms.specs.H.{HApply, HArith, HBlks, HCall, HCell, HDecl, HGet, HHalt, HIf, HInt, HLabel, HLet, HName}
use Rattle.h_terms.specs.H.{HPack, HProj, HSet, HTm, HTuple, HUnpack, HVal, HVals, HVar, MoreHVals, NoHVals}
use Rattle.h_pass.specs.Hoist.{Code, Nobody, Own}

-- what stands where there is nothing to put back: no typed term has it
abbrev pub missing : CVal
missing = CApply (CInt (pos 0)) NoCTys

-- the code of a label, where the list begins with label b
abbrev pub code_at : ℕ → List CVal → ℕ → CVal
code_at b [] l = missing
code_at zero (v ∷ vs) zero = v
code_at zero (v ∷ vs) (suc l) = code_at zero vs l
code_at (suc b) (v ∷ vs) zero = missing
code_at (suc b) (v ∷ vs) (suc l) = code_at b (v ∷ vs) l

-- variable i of d ones
abbrev pub variable : ℕ → ℕ → CVal
variable d i = cond (nat_lt i d) (CVar i) missing

-- one of two values
abbrev pub if_own : Bool → CVal → CVal → CVal
if_own true v w = v
if_own false v w = w

-- under d variables the name of the code around has index d
abbrev pub name_or : Own → ℕ → ℕ → CVal → CVal
name_or Nobody d l v = v
name_or (Code b) d l v = if_own (nat_eq b l) (CVar d) v

-- under d variables, where f gives the code of each label
abbrev mutual
  pub back_v : Own → ℕ → (ℕ → CVal) → HVal → CVal
  back_v own d f (HVar i) = variable d i
  back_v own d f (HInt n) = CInt n
  back_v own d f (HLabel l) = name_or own d l (f l)
  back_v own d f (HTuple vs) = CTuple (back_vs own d f vs)
  back_v own d f (HApply v ts) = CApply (back_v own d f v) ts
  back_v own d f (HPack h v s) = CPack h (back_v own d f v) s

  pub back_vs : Own → ℕ → (ℕ → CVal) → HVals → CVals
  back_vs own d f NoHVals = NoCVals
  back_vs own d f (MoreHVals v vs) = MoreCVals (back_v own d f v) (back_vs own d f vs)

-- declarations and terms
abbrev pub back_d : Own → ℕ → (ℕ → CVal) → HDecl → CDecl
back_d own d f (HName v) = CName (back_v own d f v)
back_d own d f (HProj i v) = CProj i (back_v own d f v)
back_d own d f (HArith op v w) = CArith op (back_v own d f v) (back_v own d f w)
back_d own d f (HUnpack v) = CUnpack (back_v own d f v)
back_d own d f (HCell v) = CCell (back_v own d f v)
back_d own d f (HGet v) = CGet (back_v own d f v)
back_d own d f (HSet v w) = CSet (back_v own d f v) (back_v own d f w)

-- a declaration binds one more variable
abbrev pub back_t : Own → ℕ → (ℕ → CVal) → HTm → CTm
back_t own d f (HLet e t) = CLet (back_d own d f e) (back_t own (suc d) f t)
back_t own d f (HCall g ts vs) = CCall (back_v own d f g) ts (back_vs own d f vs)
back_t own d f (HIf v t u) = CIf (back_v own d f v) (back_t own d f t) (back_t own d f u)
back_t own d f (HHalt v) = CHalt (back_v own d f v)

-- the codes of the blocks from label b on: a body sees its own name and the codes of later blocks
abbrev pub codes : ℕ → HBlks → List CVal
codes b [] = []
codes b (k ∷ ks) = CCode k.owes k.args (back_t (Code b) (ccount k.args) (code_at (suc b) (codes (suc b) ks)) k.body) ∷
    codes (suc b) ks

-- the closed term: each block's code stands for its label
abbrev pub put_back : HBlks → HTm → CTm
put_back ks t = back_t Nobody 0 (code_at 0 (codes 0 ks)) t

-- the codes of a closed term, each before those inside it
abbrev mutual
  pub codes_v : CVal → List CVal
  codes_v (CVar i) = []
  codes_v (CInt n) = []
  codes_v (CTuple vs) = codes_vs vs
  codes_v (CCode owes args body) = CCode owes args body ∷ codes_t body
  codes_v (CApply v ts) = codes_v v
  codes_v (CPack h v s) = codes_v v

  pub codes_vs : CVals → List CVal
  codes_vs NoCVals = []
  codes_vs (MoreCVals v vs) = codes_v v ++ codes_vs vs

  pub codes_d : CDecl → List CVal
  codes_d (CName v) = codes_v v
  codes_d (CProj i v) = codes_v v
  codes_d (CArith op v w) = codes_v v ++ codes_v w
  codes_d (CUnpack v) = codes_v v
  codes_d (CCell v) = codes_v v
  codes_d (CGet v) = codes_v v
  codes_d (CSet v w) = codes_v v ++ codes_v w

  pub codes_t : CTm → List CVal
  codes_t (CLet e t) = codes_d e ++ codes_t t
  codes_t (CCall f ts vs) = codes_v f ++ codes_vs vs
  codes_t (CIf v t u) = codes_v v ++ (codes_t t ++ codes_t u)
  codes_t (CHalt v) = codes_v v

-- a label, where the next code in the text has number b: it is b, or else the name of the code around
abbrev pub Next : Own → ℕ → ℕ → Type 0
Next Nobody b l = l ≡ b
Next (Code k) b l = k ≢ l → l ≡ b

-- the labels stand in the order in which their codes stand in the text of the closed term: part after part, each from
-- the number where the part before it ended
abbrev mutual
  pub InOrder_v : Own → ℕ → (ℕ → CVal) → ℕ → HVal → Type 0
  InOrder_v own d f b (HVar i) = Unit {0}
  InOrder_v own d f b (HInt n) = Unit {0}
  InOrder_v own d f b (HLabel l) = Next own b l
  InOrder_v own d f b (HTuple vs) = InOrder_vs own d f b vs
  InOrder_v own d f b (HApply v ts) = InOrder_v own d f b v
  InOrder_v own d f b (HPack h v s) = InOrder_v own d f b v

  pub InOrder_vs : Own → ℕ → (ℕ → CVal) → ℕ → HVals → Type 0
  InOrder_vs own d f b NoHVals = Unit {0}
  InOrder_vs own d f b (MoreHVals v vs) =
      InOrder_v own d f b v × InOrder_vs own d f (cv_next b (back_v own d f v)) vs

-- in a declaration
abbrev pub InOrder_d : Own → ℕ → (ℕ → CVal) → ℕ → HDecl → Type 0
InOrder_d own d f b (HName v) = InOrder_v own d f b v
InOrder_d own d f b (HProj i v) = InOrder_v own d f b v
InOrder_d own d f b (HArith op v w) = InOrder_v own d f b v × InOrder_v own d f (cv_next b (back_v own d f v)) w
InOrder_d own d f b (HUnpack v) = InOrder_v own d f b v
InOrder_d own d f b (HCell v) = InOrder_v own d f b v
InOrder_d own d f b (HGet v) = InOrder_v own d f b v
InOrder_d own d f b (HSet v w) = InOrder_v own d f b v × InOrder_v own d f (cv_next b (back_v own d f v)) w

-- in a term, under one more variable after a declaration
abbrev pub InOrder_t : Own → ℕ → (ℕ → CVal) → ℕ → HTm → Type 0
InOrder_t own d f b (HLet e t) = InOrder_d own d f b e × InOrder_t own (suc d) f (cd_next b (back_d own d f e)) t
InOrder_t own d f b (HCall g ts vs) = InOrder_v own d f b g × InOrder_vs own d f (cv_next b (back_v own d f g)) vs
InOrder_t own d f b (HIf v t u) =
    InOrder_v own d f b v × InOrder_t own d f (cv_next b (back_v own d f v)) t
    × InOrder_t own d f (ct_next (cv_next b (back_v own d f v)) (back_t own d f t)) u
InOrder_t own d f b (HHalt v) = InOrder_v own d f b v

-- in the bodies of the blocks from label b on: the codes inside the code of a label have the numbers after it
abbrev pub BodiesInOrder : ℕ → HBlks → Type 0
BodiesInOrder b [] = Unit {0}
BodiesInOrder b (k ∷ ks) =
    InOrder_t (Code b) (ccount k.args) (code_at (suc b) (codes (suc b) ks)) (suc b) k.body × BodiesInOrder (suc b) ks

-- in the main term and in each block
abbrev pub InOrder : HBlks → HTm → Type 0
InOrder ks t = InOrder_t Nobody 0 (code_at 0 (codes 0 ks)) 0 t × BodiesInOrder 0 ks

-- A program is the hoisted form of a closed term: its blocks are the codes of the term, one for one and in order; each
-- block's code put back for its label gives the term; and the labels stand in the order in which their codes stand in
-- the text of the term. A label that no later block has, and a variable that is not in scope, give a term that is not
-- typed
pub record IsHoisted (ks : HBlks) (t : HTm) (closed : CTm) : Type 0 where
  pub codes : codes 0 ks ≡ codes_t closed
  pub back : put_back ks t ≡ closed
  pub order : InOrder ks t
