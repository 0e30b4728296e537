-- Terms that are still to come, and what one node does.
use Rattle.std.specs.Prelude.{◌≡◌, ℕ, ◌<◌, ◌≤◌, ◌++◌, ◌&&◌, ◌||◌, not, List, [], ◌∷◌, length, take}
use Rattle.idx_core.specs.declared.span.Span.{Span}
use Rattle.t_terms.specs.Tree.{TSeq, TBlock}
use Rattle.t_terms.specs.Read.{blocks_of}
use Rattle.t_terms.specs.declared.block.Block.{Block}
use Rattle.t_terms.specs.declared.instr.Instr.{Instr}
use Rattle.t_emit.specs.Code.{onto}
use Rattle.t_gen.specs.Filling.{Job, finish_from}
use Rattle.a_terms.specs.Tree as a
use Rattle.calc_core.specs.Row.{top, others}
use Rattle.a_terms.specs.NodeTrees.{no_term, a_tree}
use Rattle.calc_core.specs.Ends.{lift}
use Rattle.a_terms.specs.declared.nodes.ANode.{ANode}
use Rattle.a_scope.specs.Scope.{scope, homes, Under}
use Rattle.a_scope.specs.declared.scope.Entry.{Entry}
use Rattle.t_gen.specs.Uses.{Listed, mem}
use Rattle.t_gen.specs.declared.told.Ahead.{Ahead}
use Rattle.t_gen_rules.specs.Gen.{used, uses}
use Rattle.t_gen.specs.Keeps.{Keeps}
use Rattle.t_gen.specs.declared.body.Start.{Start}
use Rattle.t_gen.specs.declared.state.Place.{Place}

-- the newest first
abbrev pub tops : List Place → List Place
tops [] = []
tops (p ∷ ps) = tops ps ++ p ∷ []

-- the body of a block
abbrev pub body_job : ℕ → ℕ → List ℕ → List a.ATy → List ANode → Job
body_job n k m g ns = record { block = n; names = k; places = m; vars = g; term = a_tree ns }

-- the same where it starts
abbrev pub start_job : Start → List ANode → Job
start_job s ns = body_job s.block s.names (homes s.vars.items) (scope s.names s.vars.items) ns

-- a term at a place
abbrev pub job : List Entry → Place → a.ATm → Job
job es p t = record {
  block = p.block;
  names = p.names;
  places = homes (take p.vars es);
  vars = scope p.names (take p.vars es);
  term = t;
}

-- a term at each place, the first on top
abbrev pub jobs_at : List Entry → List Place → List a.ATm → List Job
jobs_at es [] ts = []
jobs_at es (p ∷ ps) ts = job es p (top no_term ts) ∷ jobs_at es ps (others ts)

-- the blocks in the end, where the code of the first place stands behind pre
abbrev pub pend : a.AProg → List Entry → List TBlock → (TSeq → TSeq) → List Place → List a.ATm → List TBlock
pend prog es out pre [] ts = out
pend prog es out pre (p ∷ ps) ts =
    finish_from prog (length out) out pre (job es p (top no_term ts)) (jobs_at es ps (others ts))

-- each place has a block, and no more variables than the one before
abbrev pub Fit : ℕ → List Entry → ℕ → List Place → Type 0
Fit b es m [] = Unit {0}
Fit b es m (p ∷ ps) = (p.block < b) × (p.vars ≤ m) × Under p.names (take p.vars es) × Fit b es p.vars ps

-- the place and those below it fit the blocks and the variables so far
abbrev pub Ready : List Block → List Entry → Place → List Place → Type 0
Ready o es p ps = Fit (length (blocks_of o)) es (length es) (p ∷ tops ps)

-- each place has the registers of the variables that its term uses
abbrev pub KeepsAll : List Entry → List Place → List a.ATm → Type 0
KeepsAll es [] ts = Unit {0}
KeepsAll es (p ∷ ps) ts =
    Keeps p.registers (homes (take p.vars es)) (used (top no_term ts)) × KeepsAll es ps (others ts)

-- what is told of a choice on a value: the variables that its third part uses, and those that it or its value uses and
-- its second part does not
abbrev pub Parting : a.AVal → List a.ATm → Ahead → Type 0
Parting v ts w = Listed (used (top no_term (others ts))) 0 w.third.items
    × ((i : ℕ) → mem w.gone.items i ≡ ((uses v i || used (top no_term (others ts)) i) && not (used (top no_term ts) i)))

-- what one node does, which makes a term of `kids` of these terms
pub record Stepped (prog : a.AProg) (p : Place) (ts : List a.ATm) (build : List a.ATm → List a.ATm) (kids : ℕ)
    (es fs : List Entry)
    (ps qs : List Place) (o n : List Block) (c d : List (Instr × Span)) : Type 0 where
  pub walked :
      pend prog fs (blocks_of n) (onto d) (tops qs) ts ≡ pend prog es (blocks_of o) (onto c) (p ∷ tops ps) (build ts)
  pub fit : Fit (length (blocks_of n)) fs (length fs) (tops qs)
  pub count : length qs ≡ lift kids (length ps)
  pub keeps : KeepsAll fs (tops qs) ts
