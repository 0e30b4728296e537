-- The walk along a whole program.
use Rattle.std.proofs.Common.{◌≡◌, List, [], ◌∷◌, None, sym, ap, ◌∙◌, subst, subst₂, length}
use Rattle.std.proofs.Math.Logic.{∥∥₁_map}
use Rattle.std.proofs.lemmas.List.{append-nil, nil_from_length}
use Rattle.c_terms.specs.Stream as S
use Rattle.c_terms.specs.declared.node.CNode.{CNode}
use Rattle.h_terms.specs.declared.node.HBlock.{HBlock}
use Rattle.h_terms.specs.declared.node.HNode.{HNode}
use Rattle.h_pass.specs.declared.state.Walk.{Walk}
use Rattle.c_terms.specs.Bound.{CBound}
use Rattle.c_terms.specs.C.{CTm}
use Rattle.c_terms.specs.Read.{cnode, written}
use Rattle.c_terms.specs.Stream.{clin_t}
use Rattle.h_terms.specs.Bound.{HBound}
use Rattle.h_terms.specs.H.{HBlks, HTm}
use Rattle.h_terms.specs.Nodes.{h_blocks, h_tree, no_term}
use Rattle.calc_core.specs.Row.{top}
use Rattle.h_pass.proofs.Stepping.{Whole, at_end}
use Rattle.h_pass.specs.Hoist.{blocks_of, main_of}
use Rattle.h_pass.specs.Stream.{Found, IsFine, hoisted, whole}
use Rattle.h_pass.specs.Walk.{Ends, Goes, Steps, Walked, program_of}

-- the nodes of a term in scope are walked to their end
fine_of : (t : CTm) (ns : List CNode) → hoisted (clin_t 0 t []) ≡ whole t → written ns [] ≡ clin_t 0 t [] →
    IsFine (written ns [])
fine_of t ns kept read = ap (λ (r : Found). r.fine) (ap hoisted read ∙ kept)

program_is : (t : CTm) (ns : List CNode) → hoisted (clin_t 0 t []) ≡ whole t → written ns [] ≡ clin_t 0 t [] →
    program_of (written ns []) ≡ (blocks_of t, main_of t)
program_is t ns kept read =
    ap (λ (r : Found). (r.blocks, top no_term r.terms)) (ap hoisted read ∙ kept)
    ∙ ap (λ (ks : HBlks). (ks, main_of t)) (append-nil (blocks_of t))

-- a walk that begins has the program of the term before it
pub begins : (t : CTm) (ns : List CNode) (w : Walk) → hoisted (clin_t 0 t []) ≡ whole t →
    written ns [] ≡ clin_t 0 t [] → ((rest : List S.CNd) → IsFine rest → Walked w rest (program_of rest)) →
    Walked w (written ns []) (blocks_of t, main_of t)
begins t ns w kept read start =
    subst (Walked w (written ns [])) (program_is t ns kept read) (start (written ns []) (fine_of t ns kept read))

-- one node more
pub goes_on : (ms ns : List CNode) (n : CNode) (w v : Walk) (p : HBlks × HTm) → ms ≡ n ∷ ns → Steps w (cnode n) v →
    Walked w (written ms []) p → Walked v (written ns []) p
goes_on ms ns n w v p left step st = step (written ns []) p (subst (λ xs. Walked w (written xs []) p) left st)

-- no node is left
pub hoisted_whole : (t : CTm) (rest : List CNode) (w v : Walk) → length rest ≡ 0 →
    Walked w (written rest []) (blocks_of t, main_of t) → v.current.call ≡ None →
    ((rest : List S.CNd) → Ends rest → Goes w rest v rest) →
    Whole v.blocks.items v.current.nodes.items (blocks_of t, main_of t)
hoisted_whole t rest w v past st none goes = at_end w v rest (blocks_of t, main_of t) (nil_from_length rest past) st
    none goes

pub bound_of : (t : CTm) (bs : List HBlock) (ns : List HNode) → Whole bs ns (blocks_of t, main_of t) →
    (CBound t → HBound (blocks_of t) (main_of t)) → ∥ CBound t ∥₁ → ∥ HBound (h_blocks bs) (h_tree ns) ∥₁
bound_of t bs ns all fits b = subst₂ (λ ks m. ∥ HBound ks m ∥₁) (sym all.blocks) (sym all.main) (∥∥₁_map b fits)
