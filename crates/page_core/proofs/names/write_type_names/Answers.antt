use Rattle.std.proofs.Common.{◌≡◌, ◌<◌, ℕ, suc, ◌+◌, ◌-◌, List, ◌++◌, ap, subst, ◌∙◌, append_assoc, add-one, arith}
use Rattle.page_core.specs.Names.{names_in_row, separator, type_name}
use Rattle.page_core.proofs.names.write_type_names.Goals as goal

-- one more name
name_more : (text mid next : List ℕ) (i n k : ℕ) (whole : List ℕ) → i < k →
    text ++ names_in_row i (n + i) (k - i) ≡ whole → mid ≡ text ++ separator i → next ≡ mid ++ type_name (n + i) →
    next ++ names_in_row (i + 1) (n + (i + 1)) (k - (i + 1)) ≡ whole
name_more text mid next i n k whole lt h e f =
    let m : k - i ≡ suc (k - suc i) = omega arith in
    let a : n + (i + 1) ≡ n + i + 1 = omega arith in
    let rest = names_in_row (suc i) (n + i + 1) (k - suc i) in
    let w : text ++ (separator i ++ (type_name (n + i) ++ rest)) ≡ whole =
    subst (λ c. text ++ names_in_row i (n + i) c ≡ whole) m h in
    rw (a, add-one i, f, e) (append_assoc (text ++ separator i) (type_name (n + i)) rest
    ∙ append_assoc text (separator i) (type_name (n + i) ++ rest) ∙ w)

pub loop-i-preserved : goal.loop-i-preserved
loop-i-preserved c =
    name_more _ _ _ c.loop-i.i c.args.first c.args.count _ c.loop-i-test.true c.loop-i.invariant
    c.in_ok-write_separator.ensures
    (c.in_ok-write_type_name.ensures
    ∙ ap (λ n. c.write_separator.new.text.items ++ type_name n) c.in_ok-around.ensures)
