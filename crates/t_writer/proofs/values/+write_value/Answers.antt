use Rattle.std.proofs.Common.{◌≡◌, ap, ◌∙◌, sym, ◌++◌}
use Rattle.t_types.specs.Read.{tree}
use Rattle.t_terms.specs.Tree.{Pack, TValue}
use Rattle.t_terms.specs.Read.{value}
use Rattle.t_writer.specs.Lexeme.{render}
use Rattle.t_writer.specs.Written.{value_written}
use Rattle.t_writer.proofs.Rendered.{pack_done}
use Rattle.t_writer.proofs.values.+write_value.Goals as goal

pub returns-in_ok-write_type-in-Pack-2 : goal.returns-in_ok-write_type-in-Pack-2
returns-in_ok-write_type-in-Pack-2 t c =
    let hidden = tree c.deref-in-Pack.result.now in
    let inner = value c.deref-in-Pack-2.result.now in
    let shape = tree c.deref-in-Pack-3.result.now in
    let kept = Pack (tree c.in-Pack.hidden.value) (value c.in-Pack.inner.value) (tree c.in-Pack.shape.value) in
    let same : Pack hidden inner shape ≡ kept =
    cc (c.deref-in-Pack.ensures, c.deref-in-Pack-2.ensures, c.deref-in-Pack-3.ensures) in
    pack_done c.args.depth hidden shape inner _ _ _ _ _ _ _ c.in_ok-extend_from_slice-in-Pack.ensures.items
    c.in_ok-write_type-in-Pack.ensures c.in_ok-extend_from_slice-in-Pack-2.ensures.items
    c.in_ok-write_value-in-Pack.ensures c.in_ok-extend_from_slice-in-Pack-3.ensures.items
    c.in_ok-write_type-in-Pack-2.ensures
    ∙ ap (λ (v : TValue). c.args.text.now.items ++ render (value_written c.args.depth v))
    (same ∙ ap value (sym c.in-Pack.is))
