-- The tree of a list of nodes, by one walk from the first to the last. Every list has one; a mark out of place is
-- passed.
use Rattle.std.specs.Prelude.{ℕ, zero, suc, ◌-◌, List, [], ◌∷◌}
use Rattle.calc_core.specs.Ends.{lift}
use Rattle.k_terms.specs.K.{KTys, KVal, KVar, KInt, KTuple, KCode, KVals, NoKVals, MoreKVals, KDecl, KName, KProj}
use Rattle.k_terms.specs.K.{KArith, KPack, KUnpack, KCell, KGet, KSet, KTm, KLet, KCall, KIf, KHalt, kcount}
use Rattle.k_terms.specs.Stream.{KNd, NVar, NInt, NTuple, NCode, NEnd, NName, NProj, NArith, NPack, NUnpack, NCell}
use Rattle.k_terms.specs.Stream.{NGet, NSet, NCall, NIf, NElse, NHalt}

-- a term that is open: how many names are in scope, what stands around the rest of it, the whole term if it ends with
-- these values, and the values that wait, the last first
pub record Body : Type 0 where
  pub depth : ℕ
  pub around : KTm → KTm
  pub ending : List KVal → KTm
  pub waiting : List KVal

-- what is around an open term: a code, whose body it is, or an `if0`, whose first branch it is
pub data Open : Type 0 where
  InCode : (b : Body) (owes : ℕ) (args : KTys) → Open
  InThen : (b : Body) (test : KVal) → Open

abbrev pub top : List KVal → KVal
top [] = KVar 0
top (v ∷ vs) = v

abbrev pub rest : List KVal → List KVal
rest [] = []
rest (v ∷ vs) = vs

-- the n last, before others
abbrev pub taken : ℕ → List KVal → KVals → KVals
taken zero vs more = more
taken (suc n) [] more = more
taken (suc n) (v ∷ vs) more = taken n vs (MoreKVals v more)

abbrev pub past : ℕ → List KVal → List KVal
past zero vs = vs
past (suc n) [] = []
past (suc n) (v ∷ vs) = past n vs

abbrev pub all : List KVal → KVals → KVals
all [] more = more
all (v ∷ vs) more = all vs (MoreKVals v more)

abbrev pub fresh : ℕ → Body
fresh d = record { depth = d; around = λ t. t; ending = λ vs. KHalt (KVar 0); waiting = [] }

abbrev pub push : Body → KVal → Body
push b v = record { depth = b.depth; around = b.around; ending = b.ending; waiting = v ∷ b.waiting }

abbrev pub bind : Body → KDecl → List KVal → Body
bind b x vs = record {
  depth = suc b.depth;
  around = λ t. b.around (KLet x t);
  ending = b.ending;
  waiting = vs;
}

-- a declaration of the value that waits last
abbrev pub bind_one : Body → (KVal → KDecl) → Body
bind_one b x = bind b (x (top b.waiting)) (rest b.waiting)

-- a declaration of the last two
abbrev pub bind_two : Body → (KVal → KVal → KDecl) → Body
bind_two b x = bind b (x (top (rest b.waiting)) (top b.waiting)) (rest (rest b.waiting))

abbrev pub calls : Body → KTys → Body
calls b ts = record {
  depth = b.depth;
  around = b.around;
  ending = λ vs. b.around (KCall (top b.waiting) ts (all vs NoKVals));
  waiting = [];
}

abbrev pub halts : Body → Body
halts b = record {
  depth = b.depth;
  around = b.around;
  ending = λ vs. b.around (KHalt (top b.waiting));
  waiting = [];
}

abbrev pub other : Body → KVal → KTm → Body
other b v t = record {
  depth = b.depth;
  around = λ u. b.around (KIf v t u);
  ending = b.ending;
  waiting = [];
}

abbrev pub grouped : ℕ → Body → Body
grouped n b = record {
  depth = b.depth;
  around = b.around;
  ending = b.ending;
  waiting = KTuple (taken n b.waiting NoKVals) ∷ past n b.waiting;
}

abbrev pub run : List KNd → Body → List Open → KTm
run [] b os = b.ending b.waiting
run (NVar l ∷ ns) b os = run ns (push b (KVar (b.depth - suc l))) os
run (NInt n ∷ ns) b os = run ns (push b (KInt n)) os
run (NTuple n ∷ ns) b os = run ns (grouped n b) os
run (NCode d td owes args ∷ ns) b os = run ns (fresh (lift (kcount args) (suc d))) (InCode b owes args ∷ os)
run (NEnd ∷ ns) b [] = run ns b []
run (NEnd ∷ ns) b (InCode c owes args ∷ os) = run ns (push c (KCode owes args (b.ending b.waiting))) os
run (NEnd ∷ ns) b (InThen c v ∷ os) = run ns b os
run (NName l t ∷ ns) b os = run ns (bind_one b KName) os
run (NProj l i t ∷ ns) b os = run ns (bind_one b (KProj i)) os
run (NArith l op ∷ ns) b os = run ns (bind_two b (KArith op)) os
run (NPack l td h s ∷ ns) b os = run ns (bind_one b (λ v. KPack h v s)) os
run (NUnpack l td t ∷ ns) b os = run ns (bind_one b KUnpack) os
run (NCell l t ∷ ns) b os = run ns (bind_one b KCell) os
run (NGet l t ∷ ns) b os = run ns (bind_one b KGet) os
run (NSet l ∷ ns) b os = run ns (bind_two b KSet) os
run (NCall l td ts n ∷ ns) b os = run ns (calls b ts) os
run (NIf ∷ ns) b os = run ns (fresh b.depth) (InThen b (top b.waiting) ∷ os)
run (NElse td ∷ ns) b [] = run ns b []
run (NElse td ∷ ns) b (InCode c owes args ∷ os) = run ns b os
run (NElse td ∷ ns) b (InThen c v ∷ os) = run ns (other c v (b.ending b.waiting)) os
run (NHalt ∷ ns) b os = run ns (halts b) os

abbrev pub decode : List KNd → KTm
decode ns = run ns (fresh 0) []
