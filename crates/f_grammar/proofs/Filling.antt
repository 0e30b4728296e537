-- What was begun can be completed.
use Rattle.std.proofs.Common.{pos, ◌≡◌, ℕ, suc, ◌<◌, List, [], ◌∷◌, ◌++◌, refl, ◌∙◌, true, false, arith}
use Rattle.idx_core.specs.declared.span.Span.{Span}
use Rattle.f_lexer.specs.declared.token.Token.{Token}
use Rattle.f_lexer.specs.declared.kind.Kind.{Kind}
use Rattle.f_lexer.specs.declared.kind.Kind.TheVariants as k
use Rattle.f_grammar.specs.declared.cursor.Wanted.TheVariants as want
use Rattle.f_grammar.specs.Grammar.{tok}
use Rattle.f_grammar.specs.Raw.{var, int_ty}
use Rattle.text_core.specs.Table.{Nt}
use Rattle.f_grammar.proofs.Complete.{do_now, mark_now, next}
use Rattle.text_core.proofs.Rules as rules
use Rattle.text_core.proofs.Rules.{Filling, good_row, quiet_row, AtLeast, Least}
use Rattle.f_grammar.specs.Machine.{table, Class, Line, LE, LP, LParam, LBranches, LFields, LHidden, LNames, MoreParts}
use Rattle.f_grammar.specs.Machine.{MoreFactors, MoreSums, MoreAssign, MoreFields, LT, LU, LTypes, MoreArrow}
use Rattle.f_grammar.specs.Machine.{MoreTypes, MakeVar, MakeUnit, TypeInt, TypeUnit, Stack, Val, OfToken, OfTerm}
use Rattle.f_grammar.specs.Machine.{OfType, fits, after, may_end, sum_tail, type_tail, marks, exec, act}

abbrev here : Span
here = record { start = 0; end = 0 }

abbrev pub token : Class → Token
token want.Name = tok k.Name here
token want.Number = tok (k.Plain (pos 0)) here
token want.LeftParen = tok k.LeftParen here
token want.RightParen = tok k.RightParen here
token want.RightAngle = tok k.RightAngle here
token want.LeftBracket = tok k.LeftBracket here
token want.RightBracket = tok k.RightBracket here
token want.Comma = tok k.Comma here
token want.Dot = tok k.Dot here
token want.Colon = tok k.Colon here
token want.Equals = tok k.Equals here
token want.In = tok k.In here
token want.As = tok k.As here
token want.Assign = tok k.Assign here
token want.Arrow = tok k.Arrow here
token want.Star = tok k.Star here
token want.Fix = tok k.Fix here
token want.Gen = tok k.Gen here
token want.Let = tok k.Let here
token want.Pack = tok k.Pack here
token want.Open = tok k.Open here

abbrev pub least : Line → List Token
least LE = tok k.Name here ∷ []
least LP = tok k.Name here ∷ []
least LParam =
    tok k.LeftParen here ∷ (tok k.Name here ∷ (tok k.Colon here ∷ (tok k.Int here ∷ (tok k.RightParen here ∷ []))))
least LBranches =
    tok k.LeftParen here
    ∷ (tok k.Name here
    ∷ (tok k.Comma here ∷ (tok k.Name here ∷ (tok k.Comma here ∷ (tok k.Name here ∷ (tok k.RightParen here ∷ []))))))
least LFields = tok k.RightAngle here ∷ []
least LHidden =
    tok k.LeftBracket here ∷ (tok k.Int here ∷ (tok k.Comma here ∷ (tok k.Name here ∷ (tok k.RightBracket here ∷ []))))
least LNames =
    tok k.LeftBracket here
    ∷ (tok k.Name here ∷ (tok k.Comma here ∷ (tok k.Name here ∷ (tok k.RightBracket here ∷ []))))
least LT = tok k.Int here ∷ []
least LU = tok k.Int here ∷ []
least LTypes = tok k.RightAngle here ∷ []
least _ = []

-- 2: no line goes on with it; 1: only lists do
abbrev pub level : Kind → ℕ
level k.RightParen = 2
level k.RightAngle = 2
level k.RightBracket = 2
level k.Dot = 2
level k.Colon = 2
level k.Equals = 2
level k.In = 2
level k.As = 2
level k.Comma = 1
level _ = 0

abbrev pub wants : Line → ℕ
wants MoreFields = 2
wants MoreTypes = 2
wants _ = 1

abbrev pub filling : Filling table
filling = record { token = token; least = least; level = λ t. level t.kind; wants = wants }

pub fits_token : (c : Class) → fits c (token c).kind ≡ true
fits_token want.Name = refl
fits_token want.Number = refl
fits_token want.LeftParen = refl
fits_token want.RightParen = refl
fits_token want.RightAngle = refl
fits_token want.LeftBracket = refl
fits_token want.RightBracket = refl
fits_token want.Comma = refl
fits_token want.Dot = refl
fits_token want.Colon = refl
fits_token want.Equals = refl
fits_token want.In = refl
fits_token want.As = refl
fits_token want.Assign = refl
fits_token want.Arrow = refl
fits_token want.Star = refl
fits_token want.Fix = refl
fits_token want.Gen = refl
fits_token want.Let = refl
fits_token want.Pack = refl
fits_token want.Open = refl

pub goods : (n : Line) (c : Kind) → good_row table filling n (after n c) ≡ true
goods LE k.Fix = refl
goods LP k.Name = refl
goods LParam k.LeftParen = refl
goods LBranches k.LeftParen = refl
goods LFields k.RightAngle = refl
goods LHidden k.LeftBracket = refl
goods LNames k.LeftBracket = refl
goods MoreParts k.Name = refl
goods MoreFactors k.Star = refl
goods MoreSums k.Plus = refl
goods MoreAssign k.Assign = refl
goods MoreFields k.Comma = refl
goods LT k.All = refl
goods LU k.Name = refl
goods LTypes k.RightAngle = refl
goods MoreArrow k.Arrow = refl
goods MoreTypes k.Comma = refl
goods _ _ = refl

pub quiet : (n : Line) (c : Kind) (s : Span) → quiet_row table filling n (tok c s) ≡ true
quiet MoreParts k.Name s = refl
quiet MoreFactors k.Star s = refl
quiet MoreSums k.Plus s = refl
quiet MoreAssign k.Assign s = refl
quiet MoreFields k.Comma s = refl
quiet MoreArrow k.Arrow s = refl
quiet MoreTypes k.Comma s = refl
quiet _ _ s = refl

pub wanted : (n : Line) → 0 < wants n
wanted MoreFields = omega arith
wanted MoreTypes = omega arith
wanted _ = omega arith

silent : (n : Line) → may_end n ≡ true → (w : List Token) → AtLeast table filling (wants n) w →
    (s : Stack) (vs : List Val) → exec w (Nt n ∷ s) vs ≡ exec w s vs
silent n e w h s vs = rules.silent table filling (λ m c. quiet m c.kind c.span) n e w h s vs

pub reads : (n : Line) → may_end n ≡ false → (w : List Token) → AtLeast table filling (wants n) w →
    (s : Stack) (vs : List Val) → Least table n (least n) w s vs
reads LE e w h s vs = record {
  made = OfTerm (var here) ∷ vs;
  counts = marks s ∷ [];
  leads = next (marks s)
      (do_now w MakeVar (sum_tail ++ s) _
      ∙ (silent MoreParts refl w h (Nt MoreFactors ∷ (Nt MoreSums ∷ (Nt MoreAssign ∷ s))) _
      ∙ (silent MoreFactors refl w h (Nt MoreSums ∷ (Nt MoreAssign ∷ s)) _
      ∙ (silent MoreSums refl w h (Nt MoreAssign ∷ s) _ ∙ silent MoreAssign refl w h s _))));
}
reads LP e w h s vs =
    record { made = OfTerm (var here) ∷ vs; counts = marks s ∷ []; leads = next (marks s) (do_now w MakeVar s _) }
reads LParam e w h s vs = record {
  made = _;
  counts = suc (marks s) ∷ (suc (marks s) ∷ (suc (marks s) ∷ (suc (marks s) ∷ (suc (marks s) ∷ []))));
  leads = next _ (next _ (next _ (next _ (next _ (mark_now w s _)))));
}
reads LBranches e w h s vs = record {
  made = _;
  counts = suc (marks s)
      ∷ (suc (marks s) ∷ (suc (marks s) ∷ (suc (marks s) ∷ (suc (marks s) ∷ (suc (marks s) ∷ (suc (marks s) ∷ []))))));
  leads = next _ (next _ (next _ (next _ (next _ (next _ (next _ (mark_now w s _)))))));
}
reads LHidden e w h s vs = record {
  made = _;
  counts = suc (marks s) ∷ (suc (marks s) ∷ (suc (marks s) ∷ (suc (marks s) ∷ (suc (marks s) ∷ []))));
  leads = next _ (next _ (next _ (next _ (next _ (mark_now w s _)))));
}
reads LNames e w h s vs = record {
  made = _;
  counts = suc (marks s) ∷ (suc (marks s) ∷ (suc (marks s) ∷ (suc (marks s) ∷ (suc (marks s) ∷ []))));
  leads = next _ (next _ (next _ (next _ (next _ (mark_now w s _)))));
}
reads LFields e w h s vs =
    record {
      made = act MakeUnit (OfToken (tok k.RightAngle here) ∷ vs);
      counts = marks s ∷ [];
      leads = next (marks s) (do_now w MakeUnit s _);
    }
reads LT e w h s vs =
    record {
      made = OfType (int_ty here) ∷ vs;
      counts = marks s ∷ [];
      leads = next (marks s) (do_now w TypeInt (type_tail ++ s) _ ∙ silent MoreArrow refl w h s _);
    }
reads LU e w h s vs =
    record { made = OfType (int_ty here) ∷ vs; counts = marks s ∷ []; leads = next (marks s) (do_now w TypeInt s _) }
reads LTypes e w h s vs =
    record {
      made = act TypeUnit (OfToken (tok k.RightAngle here) ∷ vs);
      counts = marks s ∷ [];
      leads = next (marks s) (do_now w TypeUnit s _);
    }
reads _ e w h s vs = absurd (cc)
