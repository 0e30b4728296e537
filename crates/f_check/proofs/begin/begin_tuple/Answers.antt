use Rattle.std.proofs.Common.{◌∙◌, ap, map}
use Rattle.f_terms.specs.Ty.{TTuple, tys}
use Rattle.f_terms.specs.Read.{tree}
use Rattle.f_terms.specs.declared.types.FType.TheVariants as T
use Rattle.f_terms.proofs.Trees.{tree_Tuple}
use Rattle.f_check.proofs.Begins.{tuple_enters, tuple_empty}
use Rattle.std.proofs.Common.{refl}
use Rattle.std.proofs.lemmas.List.{nil_from_length}
use Rattle.f_check.proofs.Follows.{begun}
use Rattle.f_check.specs.declared.frame.Frame.TheVariants as C
use Rattle.f_terms.specs.declared.node.FShape.TheVariants as S
use Rattle.f_check.proofs.begin.begin_tuple.Goals as goal

pub enter-requires : goal.enter-requires
enter-requires c =
    (tuple_enters c.args.term.now c.args.state.now
    (record { span = c.args.span; types = c.new-types.result; rest = c.in-Some.rest }) c.args.es.now c.in-Some.e.now
    c.requires.opens c.requires.inside c.in-Some.ensures.cases.0 c.new-types.ensures.items).0

pub returns-in-None-clause-goes : goal.returns-in-None-clause-goes
returns-in-None-clause-goes c =
    tuple_empty c.args.term.now c.args.state.now c.args.span c.args.es.now (T.Tuple c.new-types.result)
    c.in-None.ensures.cases
    (tree_Tuple c.new-types.result ∙ ap (λ ts. TTuple (tys (map tree ts))) c.new-types.ensures.items) c.requires.opens

pub returns-in-Some-clause-goes : goal.returns-in-Some-clause-goes
returns-in-Some-clause-goes c =
    c.enter.ensures.goes _
    (tuple_enters c.args.term.now c.args.state.now
    (record { span = c.args.span; types = c.new-types.result; rest = c.in-Some.rest }) c.args.es.now c.in-Some.e.now
    c.requires.opens c.requires.inside c.in-Some.ensures.cases.0 c.new-types.ensures.items).1

pub returns-in-Some-clause-frames : goal.returns-in-Some-clause-frames
returns-in-Some-clause-frames c = λ es is.
    begun _ (S.Tuple es) _ _ (C.Fields (record {
      span = c.args.span;
      types = c.new-types.result;
      rest = c.in-Some.rest;
    })) c.in-Some.e.now c.enter.ensures.frames (es, refl) (is ∙ c.in-Some.ensures.cases.0)

pub returns-in-None-clause-frames : goal.returns-in-None-clause-frames
returns-in-None-clause-frames c = λ es is. (refl, is ∙ nil_from_length _ c.in-None.ensures.cases)
