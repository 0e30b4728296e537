-- The grammar meets the rules of a table, so its verdicts are exact, and its trees unique.
use Rattle.std.proofs.Common.{◌≡◌, ℕ, List, [], refl}
use Rattle.t_text.specs.declared.token.Token.{Token}
use Rattle.t_text.specs.Raw.{RawItem}
use Rattle.t_text.specs.Grammar.{Program}
use Rattle.text_core.specs.Table.{Verdict, bounded, whole}
use Rattle.text_core.specs.Verdicts.{Says}
use Rattle.text_core.proofs.Claims.{Sound, Claims}
use Rattle.text_core.proofs.Unique as unique
use Rattle.t_text.specs.GrammarTable.{table, Val, LProgram}
use Rattle.text_core.proofs.Rules.{Rules, claims_of, exact_by}
use Rattle.t_text.proofs.Complete.{read_shape}
use Rattle.t_text.proofs.TableRows.{row, empty}
use Rattle.t_text.proofs.TableLines.{Sem, sem_program, meaning, is_of}
use Rattle.t_text.proofs.Filling.{filling, fits_token, goods, quiet, reads, wanted}

shape : (w : List Token) (r : List Val) → Sem LProgram [] w r → Sound table w r
shape w _ (sem_program {xs} d) = record { value = xs; shape = d; is = refl }

rules : Rules table
rules = record {
  complete = λ w t e. read_shape e;
  same_tree = λ t r e. cc;
  meaning = meaning;
  is = λ c t e. is_of c t.kind t.span e;
  empty = λ n e vs. empty n e vs;
  row = λ n c. row n c.kind c.span;
  shape = λ w r h. shape w r h;
  filling = filling;
  fits = λ c. fits_token c;
  goods = λ n c. goods n c.kind;
  quiet = λ n c. quiet n c.kind c.span;
  least = λ n e w h s vs. reads n e w h s vs;
  wanted = λ n. wanted n;
}

pub claims : Claims table
claims = claims_of table rules

pub assembly_exact : (limit : ℕ) (w : List Token) → Says table limit w (bounded table limit w (whole table w))
assembly_exact limit w = exact_by table rules limit w

pub one_tree : {w : List Token} {t r : List RawItem} → Program w t → Program w r → t ≡ r
one_tree x y = unique.one_tree table claims x y

pub one_verdict : (limit : ℕ) (w : List Token) (a b : Verdict table) → Says table limit w a → Says table limit w b →
    a ≡ b
one_verdict limit w a b x y = unique.one_verdict table claims limit w a b x y
