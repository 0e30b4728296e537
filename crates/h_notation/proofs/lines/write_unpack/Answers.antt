use Rattle.std.proofs.Common.{◌≡◌, ℕ, List, [], ◌++◌, codes, append_assoc}
use Rattle.page_core.specs.Names.{type_name, value_name}
use Rattle.calc_core.specs.Row.{top}
use Rattle.h_notation.specs.Values.{texts_of}
use Rattle.h_notation.proofs.lines.write_unpack.Goals as goal

seven_parts : (a b c d n e f t0 t1 t2 t3 t4 t5 t6 t7 : List ℕ) → t1 ≡ t0 ++ a → t2 ≡ t1 ++ b → t3 ≡ t2 ++ c →
    t4 ≡ t3 ++ d → t5 ≡ t4 ++ n → t6 ≡ t5 ++ e → t7 ≡ t6 ++ f →
    t7 ≡ t0 ++ (a ++ (b ++ (c ++ (d ++ (n ++ (e ++ f))))))
seven_parts a b c d n e f t0 t1 t2 t3 t4 t5 t6 t7 e1 e2 e3 e4 e5 e6 e7 =
    rw (e7, e6, e5, e4, e3, e2, e1) (simp append_assoc)

pub returns : goal.returns
returns c =
    seven_parts (codes "let [") (type_name c.args.scope.now.types) (codes ", ") (value_name c.args.scope.now.names)
    c.args.note.now (codes "] = unpack ") (top [] (texts_of c.args.values.now)) _ _ _ _ _ _ _ _
    c.in_ok-extend_from_slice.ensures.items c.in_ok-write_type_name.ensures c.in_ok-extend_from_slice-2.ensures.items
    c.in_ok-write_value_name.ensures c.in_ok-extend_from_slice-3.ensures.items
    c.in_ok-extend_from_slice-4.ensures.items c.in_ok-write_first.ensures
