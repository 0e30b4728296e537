-- The source grammar meets the rules, so its verdicts are exact, and its trees unique.
use Rattle.std.proofs.Common.{◌≡◌, ℕ, List, [], refl}
use Rattle.f_lexer.specs.declared.token.Token.{Token}
use Rattle.f_grammar.specs.Raw.{Piece}
use Rattle.f_grammar.specs.Grammar.{E}
use Rattle.text_core.specs.Table.{Verdict, bounded, whole}
use Rattle.text_core.specs.Verdicts.{Says}
use Rattle.text_core.proofs.Claims.{Sound, Claims}
use Rattle.text_core.proofs.Rules.{Rules, claims_of, exact_by}
use Rattle.text_core.proofs.Unique as unique
use Rattle.f_grammar.specs.Machine.{table, Val, LE}
use Rattle.f_grammar.proofs.Complete.{read_shape}
use Rattle.f_grammar.proofs.Rows.{Sem, sem_E, meaning, is_of, row, empty}
use Rattle.f_grammar.proofs.Filling.{filling, fits_token, goods, quiet, reads, wanted}

shape : (w : List Token) (r : List Val) → Sem LE [] w r → Sound table w r
shape w _ (sem_E {e} d) = record { value = e; shape = d; is = refl }

rules : Rules table
rules = record {
  complete = λ w t e. read_shape e;
  same_tree = λ t r e. cc;
  meaning = meaning;
  is = λ c t e. is_of c t.kind t.span e;
  empty = λ n e vs. empty n e vs;
  row = λ n c. row n c.kind c.span;
  shape = λ w r h. shape w r h;
  filling = filling;
  fits = λ c. fits_token c;
  goods = λ n c. goods n c.kind;
  quiet = λ n c. quiet n c.kind c.span;
  least = λ n e w h s vs. reads n e w h s vs;
  wanted = λ n. wanted n;
}

pub source_exact : (limit : ℕ) (w : List Token) → Says table limit w (bounded table limit w (whole table w))
source_exact limit w = exact_by table rules limit w

pub one_tree : {w : List Token} {t r : Piece} → E w t → E w r → t ≡ r
one_tree x y = unique.one_tree table (claims_of table rules) x y

pub one_verdict : (limit : ℕ) (w : List Token) (a b : Verdict table) → Says table limit w a → Says table limit w b →
    a ≡ b
one_verdict limit w a b x y = unique.one_verdict table (claims_of table rules) limit w a b x y

pub claims : Claims table
claims = claims_of table rules
