-- What is written of wraps, before and behind the value inside them.
use Rattle.std.specs.Prelude.{ℕ, List, [], ◌∷◌, ◌++◌, codes}
use Rattle.a_terms.specs.Read.{atree, atrees}
use Rattle.a_terms.specs.declared.nodes.AWrap.{AWrap}
use Rattle.a_terms.specs.declared.nodes.AWrap.TheVariants.{Apply, Pack}
use Rattle.a_notation.specs.Types.{applied_text, type_text}

abbrev pub opening : ℕ → AWrap → List ℕ
opening n (Apply ts) = []
opening n (Pack h s) = codes "pack [" ++ (type_text n (atree h) ++ codes ", ")

abbrev pub closing : ℕ → AWrap → List ℕ
closing n (Apply ts) = applied_text n (atrees ts.items)
closing n (Pack h s) = codes "] as " ++ type_text n (atree s)

-- wraps stand from the inside: what is before the value is written from the last on, what is behind it from the first
abbrev pub before_text : ℕ → List AWrap → List ℕ
before_text n [] = []
before_text n (w ∷ ws) = before_text n ws ++ opening n w

abbrev pub after_text : ℕ → List AWrap → List ℕ
after_text n [] = []
after_text n (w ∷ ws) = closing n w ++ after_text n ws
