use Rattle.std.proofs.Common.{◌∙◌, ap, sym, subst, List}
use Rattle.std.proofs.Math.Logic.{∥∥₁_map}
use Rattle.k_terms.specs.Stream.{KNd}
use Rattle.k_terms.specs.Whole as K
use Rattle.c_rules.specs.Close.{close_of}
use Rattle.c_laws.specs.Row.{IsTranslation}
use Rattle.c_laws.specs.Walks.{walks}
use Rattle.c_pass.proofs.Meant.{nothing_free}
use Rattle.c_pass.proofs.program.translated.Goals as goal

pub new-requires : goal.new-requires
new-requires c =
    let p = c.args.program.now in
    let t = K.term_of p in
    let closed = nothing_free c.within_is_typed_law.ensures c.scope_law.ensures.before t p.fits in
    let read = c.in_ok-out.ensures ∙ ap (λ (ns : List KNd). walks ns) c.nodes.ensures ∙ c.walks_law.ensures t closed in
    ∥∥₁_map p.fits (λ b. (close_of t, (read, c.bound_law.ensures.bound t b)))

pub returns-clause-same : goal.returns-clause-same
returns-clause-same c =
    let p = c.args.program.now in
    let t = K.term_of p in
    let closed = nothing_free c.within_is_typed_law.ensures c.scope_law.ensures.before t p.fits in
    let read = c.in_ok-out.ensures ∙ ap (λ (ns : List KNd). walks ns) c.nodes.ensures ∙ c.walks_law.ensures t closed in
    c.new.ensures (close_of t) (c.scope_law.ensures.after t) read

pub returns-clause-rules : goal.returns-clause-rules
returns-clause-rules c =
    let p = c.args.program.now in
    let t = K.term_of p in
    let closed = nothing_free c.within_is_typed_law.ensures c.scope_law.ensures.before t p.fits in
    let read = c.in_ok-out.ensures ∙ ap (λ (ns : List KNd). walks ns) c.nodes.ensures ∙ c.walks_law.ensures t closed in
    let same = c.new.ensures (close_of t) (c.scope_law.ensures.after t) read in
    subst (IsTranslation t) (sym same) (c.translation_law.ensures t closed)
