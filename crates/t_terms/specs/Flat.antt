-- No package stands inside a package.
use Rattle.t_terms.specs.Tree.{TValue, Plain, Pack, TProg}
use Rattle.t_terms.specs.Values.{ProgramValues}

-- the value is no package
abbrev pub NoPack : TValue → Type 0
NoPack (Plain b ts) = Unit {0}
NoPack (Pack t v s) = ⊥

-- what a package holds is none
abbrev pub FlatValue : TValue → Type 0
FlatValue (Plain b ts) = Unit {0}
FlatValue (Pack t v s) = NoPack v

-- so in a whole program
abbrev pub Flat : TProg → Type 0
Flat P = ProgramValues FlatValue P
