-- A term is read back from its nodes, from the first to the last.
use Rattle.std.specs.Prelude.{ℕ, zero, suc, ◌-◌, List, [], ◌∷◌}
use Rattle.calc_core.specs.Ends.{lift}
use Rattle.c_terms.specs.C.{CTys, CVal, CVar, CInt, CTuple, CCode, CApply, CPack, CVals, NoCVals, MoreCVals, CDecl}
use Rattle.c_terms.specs.C.{CName, CProj, CArith, CUnpack, CCell, CGet, CSet, CTm, CLet, CCall, CIf, CHalt, ccount}
use Rattle.c_terms.specs.Stream.{CNd, MVar, MInt, MTuple, MCode, MEnd, MApply, MPack, MName, MProj, MArith, MUnpack}
use Rattle.c_terms.specs.Stream.{MCell, MGet, MSet, MCall, MIf, MElse, MHalt}

-- a term that is open: how many names are in scope, what stands around the rest of it, the whole term if it ends with
-- these values, and the values that wait, the last first
pub record Body : Type 0 where
  pub depth : ℕ
  pub around : CTm → CTm
  pub ending : List CVal → CTm
  pub waiting : List CVal

-- what is around an open term: a code, whose body it is, or an `if0`, whose first branch it is
pub data Open : Type 0 where
  InCode : (b : Body) (owes : ℕ) (args : CTys) → Open
  InThen : (b : Body) (test : CVal) → Open

abbrev pub top : List CVal → CVal
top [] = CVar 0
top (v ∷ vs) = v

abbrev pub rest : List CVal → List CVal
rest [] = []
rest (v ∷ vs) = vs

-- the n last, before others
abbrev pub taken : ℕ → List CVal → CVals → CVals
taken zero vs more = more
taken (suc n) [] more = more
taken (suc n) (v ∷ vs) more = taken n vs (MoreCVals v more)

abbrev pub past : ℕ → List CVal → List CVal
past zero vs = vs
past (suc n) [] = []
past (suc n) (v ∷ vs) = past n vs

abbrev pub all : List CVal → CVals → CVals
all [] more = more
all (v ∷ vs) more = all vs (MoreCVals v more)

abbrev pub fresh : ℕ → Body
fresh d = record { depth = d; around = λ t. t; ending = λ vs. CHalt (CVar 0); waiting = [] }

abbrev pub push : Body → CVal → Body
push b v = record { depth = b.depth; around = b.around; ending = b.ending; waiting = v ∷ b.waiting }

abbrev pub change : Body → CVal → Body
change b v = record { depth = b.depth; around = b.around; ending = b.ending; waiting = v ∷ rest b.waiting }

abbrev pub bind : Body → CDecl → List CVal → Body
bind b x vs = record { depth = suc b.depth; around = λ t. b.around (CLet x t); ending = b.ending; waiting = vs }

abbrev pub calls : Body → CTys → Body
calls b ts =
    record {
      depth = b.depth;
      around = b.around;
      ending = λ vs. b.around (CCall (top b.waiting) ts (all vs NoCVals));
      waiting = [];
    }

abbrev pub halts : Body → Body
halts b = record { depth = b.depth; around = b.around; ending = λ vs. b.around (CHalt (top b.waiting)); waiting = [] }

abbrev pub other : Body → CVal → CTm → Body
other b v t = record { depth = b.depth; around = λ u. b.around (CIf v t u); ending = b.ending; waiting = [] }

-- the term that nodes hold, read on from an open term; a mark out of place is skipped
abbrev pub read_on : List CNd → Body → List Open → CTm
read_on [] b os = b.ending b.waiting
read_on (MVar l ∷ ns) b os = read_on ns (push b (CVar (b.depth - suc l))) os
read_on (MInt n ∷ ns) b os = read_on ns (push b (CInt n)) os
read_on (MTuple n ∷ ns) b os =
    read_on ns (record {
      depth = b.depth;
      around = b.around;
      ending = b.ending;
      waiting = CTuple (taken n b.waiting NoCVals) ∷ past n b.waiting;
    }) os
read_on (MCode owes args ∷ ns) b os = read_on ns (fresh (lift (ccount args) 1)) (InCode b owes args ∷ os)
read_on (MEnd ∷ ns) b [] = read_on ns b []
read_on (MEnd ∷ ns) b (InCode c owes args ∷ os) = read_on ns (push c (CCode owes args (b.ending b.waiting))) os
read_on (MEnd ∷ ns) b (InThen c v ∷ os) = read_on ns b os
read_on (MApply ts ∷ ns) b os = read_on ns (change b (CApply (top b.waiting) ts)) os
read_on (MPack h s ∷ ns) b os = read_on ns (change b (CPack h (top b.waiting) s)) os
read_on (MName l ∷ ns) b os = read_on ns (bind b (CName (top b.waiting)) (rest b.waiting)) os
read_on (MUnpack l ∷ ns) b os = read_on ns (bind b (CUnpack (top b.waiting)) (rest b.waiting)) os
read_on (MCell l ∷ ns) b os = read_on ns (bind b (CCell (top b.waiting)) (rest b.waiting)) os
read_on (MGet l ∷ ns) b os = read_on ns (bind b (CGet (top b.waiting)) (rest b.waiting)) os
read_on (MProj l i ∷ ns) b os = read_on ns (bind b (CProj i (top b.waiting)) (rest b.waiting)) os
read_on (MArith l op ∷ ns) b os =
    read_on ns (bind b (CArith op (top (rest b.waiting)) (top b.waiting)) (rest (rest b.waiting))) os
read_on (MSet l ∷ ns) b os =
    read_on ns (bind b (CSet (top (rest b.waiting)) (top b.waiting)) (rest (rest b.waiting))) os
read_on (MCall ts n ∷ ns) b os = read_on ns (calls b ts) os
read_on (MIf ∷ ns) b os = read_on ns (fresh b.depth) (InThen b (top b.waiting) ∷ os)
read_on (MElse ∷ ns) b [] = read_on ns b []
read_on (MElse ∷ ns) b (InCode c owes args ∷ os) = read_on ns b os
read_on (MElse ∷ ns) b (InThen c v ∷ os) = read_on ns (other c v (b.ending b.waiting)) os
read_on (MHalt ∷ ns) b os = read_on ns (halts b) os

-- the term that nodes hold
abbrev pub cdecode : List CNd → CTm
cdecode ns = read_on ns (fresh 0) []
