-- What was begun can be completed.
use Rattle.std.proofs.Common.{ℤ, pos, negsuc, ◌≡◌, ℕ, suc, ◌<◌, ◌==◌, if◌then◌else◌, List, [], ◌∷◌, ◌++◌, refl, ◌∙◌}
use Rattle.std.proofs.Common.{Some, None, Bool, true, false, arith}
use Rattle.idx_core.specs.declared.span.Span.{Span}
use Rattle.t_text.specs.declared.token.Kind.{Kind}
use Rattle.t_text.specs.declared.token.Kind.TheVariants as k
use Rattle.t_text.specs.declared.token.Token.{Token}
use Rattle.t_text.specs.declared.wanted.Wanted.{Wanted}
use Rattle.t_text.specs.declared.wanted.Wanted.TheVariants as want
use Rattle.t_text.specs.Raw.{RPlain, RNum, raw_regs, ending}
use Rattle.t_text.specs.Grammar.{tok}
use Rattle.text_core.specs.Table.{Nt, Do}
use Rattle.t_text.proofs.Complete.{do_now, marked, next, under}
use Rattle.text_core.proofs.Rules as rules
use Rattle.text_core.proofs.Rules.{Filling, quiet_row, good_row, AtLeast, Least}
use Rattle.t_text.specs.GrammarTable.{table, Line, LProgram, LBlock, LMoreBlocks, LBinds, LNames, LMoreNames, LFile}
use Rattle.t_text.specs.GrammarTable.{LRegs, LMoreRegs, LT, LFields, LMoreFields, LTypes, LTypeList, LSomeTypes}
use Rattle.t_text.specs.GrammarTable.{LMoreTypes, LV, LArgs, LPacked, LTo, LAt, LIndex, LTarget, LInt, LI, LMoreSteps}
use Rattle.t_text.specs.GrammarTable.{LEnd, LHeader, LSomeItems, LFirst, LMoreItems, LItem, LTuple, LDatums}
use Rattle.t_text.specs.GrammarTable.{LMoreDatums, LW, LWordArgs, LWordPacked, Stack, Val, OfToken, OfNames, OfFile}
use Rattle.t_text.specs.GrammarTable.{OfSteps, OfValue, OfWord, code_owed, items_tail, act, seen, blocks_owed}
use Rattle.t_text.specs.GrammarTable.{items_owed, headed, fits, after, may_end, marks, exec, MakeBinds, MakeFile}
use Rattle.t_text.specs.GrammarTable.{MakeNoNames, MakeNoRegs, MakeTypeInt, MakeNoFields, MakeTypes, MakeNoTypes}
use Rattle.t_text.specs.GrammarTable.{MakeBase, MakePacked, MakeTo, MakeIndex, MakeAt, MakeTarget, MakeInt}
use Rattle.t_text.specs.GrammarTable.{MakeMalloc, MakeHalt, MakeBlock, MakeFirstBlock, MakeWord, MakeWordPacked}
use Rattle.t_text.specs.GrammarTable.{MakeNoDatums, MakeTuple, MakeBlockItem, MakeDataItem, MakeNextItem, MakeHeaded}
use Rattle.t_text.specs.GrammarTable.{MakeProgram, MakeClosedTypes}

abbrev here : Span
here = record { start = 0; end = 0 }

abbrev one : Kind → List Token
one kind = tok kind here ∷ []

abbrev pub token : Wanted → Token
token want.Name = tok k.Name here
token want.Register = tok (k.Register 1) here
token want.Number = tok (k.Plain (pos 0)) here
token want.Flag = tok (k.Plain (pos 0)) here
token want.LeftBracket = tok k.LeftBracket here
token want.RightBracket = tok k.RightBracket here
token want.LeftBrace = tok k.LeftBrace here
token want.RightBrace = tok k.RightBrace here
token want.RightAngle = tok k.RightAngle here
token want.Comma = tok k.Comma here
token want.Dot = tok k.Dot here
token want.Colon = tok k.Colon here
token want.Caret = tok k.Caret here
token want.Tal = tok k.Tal here
token want.Code = tok k.Code here
token want.As = tok k.As here
token want.Int = tok k.Int here

abbrev index : List Token
index = tok k.LeftBracket here ∷ (tok (k.Plain (pos 0)) here ∷ one k.RightBracket)

abbrev brackets : List Token
brackets = tok k.LeftBracket here ∷ one k.RightBracket

abbrev int : List Token
int = tok k.LeftBracket here ∷ (tok k.Int here ∷ one k.RightBracket)

-- what follows on the word of a block that takes nothing
abbrev code : List Token
code =
    tok k.LeftBracket here ∷ (tok k.RightBracket here ∷ (tok k.LeftBrace here ∷
    (tok k.RightBrace here ∷ (tok k.Dot here ∷ (tok k.Halt here ∷ int)))))

abbrev block : List Token
block = tok k.Name here ∷ (tok k.Colon here ∷ (tok k.Code here ∷ code))

abbrev pub least : Line → List Token
least LProgram = tok k.Tal here ∷ (tok (k.Plain (pos 1)) here ∷ block)
least LHeader = tok (k.Plain (pos 1)) here ∷ block
least LBlock = block
least LSomeItems = block
least LFirst = tok k.Code here ∷ code
least LItem = tok k.Data here ∷ (tok k.LeftAngle here ∷ one k.RightAngle)
least LTuple = tok k.LeftAngle here ∷ one k.RightAngle
least LDatums = one k.RightAngle
least LW = one (k.Plain (pos 0))
least LWordPacked =
    tok k.LeftBracket here ∷ (tok k.Int here ∷
    (tok k.Comma here ∷ (tok (k.Plain (pos 0)) here ∷ one k.RightBracket)))
least LBinds = brackets
least LNames = one k.RightBracket
least LFile = tok k.LeftBrace here ∷ one k.RightBrace
least LRegs = one k.RightBrace
least LT = one k.Int
least LFields = one k.RightAngle
least LTypes = brackets
least LTypeList = one k.RightBracket
least LSomeTypes = tok k.Int here ∷ one k.RightBracket
least LV = one (k.Plain (pos 0))
least LPacked =
    tok k.LeftBracket here ∷ (tok k.Int here ∷ (tok k.Comma here ∷ (tok (k.Plain (pos 0)) here ∷ one k.RightBracket)))
least LTo = tok (k.Register 1) here ∷ one k.Comma
least LAt = tok (k.Register 1) here ∷ index
least LIndex = index
least LTarget =
    tok k.LeftBracket here ∷ (tok k.Name here ∷ (tok k.Comma here ∷ (tok (k.Register 1) here ∷ one k.RightBracket)))
least LInt = int
least LI = tok k.Malloc here ∷ (tok (k.Register 1) here ∷ brackets)
least LEnd = tok k.Halt here ∷ int
least _ = []

-- 2: no line goes on with it; 1: only lists do, and blocks and items
abbrev pub level : Kind → ℕ
level (k.Register r) = 2
level (k.Plain z) = 2
level k.RightBracket = 2
level k.LeftBrace = 2
level k.RightBrace = 2
level k.RightAngle = 2
level k.Dot = 2
level k.Caret = 2
level k.As = 2
level k.Int = 2
level k.Jmp = 2
level k.Halt = 2
level k.Colon = 2
level k.Comma = 1
level k.Name = 1
level _ = 0

abbrev pub wants : Line → ℕ
wants LMoreNames = 2
wants LMoreRegs = 2
wants LMoreFields = 2
wants LMoreTypes = 2
wants LMoreDatums = 2
wants LMoreBlocks = 2
wants LSomeItems = 2
wants LFirst = 2
wants LMoreItems = 2
wants LHeader = 2
wants LProgram = 2
wants _ = 1

abbrev pub filling : Filling table
filling = record { token = token; least = least; level = λ t. level t.kind; wants = wants }

pub fits_token : (c : Wanted) → fits c (token c).kind ≡ true
fits_token want.Name = refl
fits_token _ = refl

good_header : (z : ℤ) → good_row table filling LHeader (headed z) ≡ true
good_header (pos n) = by_number (n == 1) (n == 2)
  where
    by_number : (a b : Bool) →
        good_row table filling LHeader (if a then Some blocks_owed else if b then Some items_owed else None) ≡ true
    by_number true b = refl
    by_number false true = refl
    by_number false false = refl
good_header (negsuc n) = refl

pub goods : (n : Line) (c : Kind) → good_row table filling n (after n c) ≡ true
goods LProgram k.Tal = refl
goods LHeader (k.Plain z) = good_header z
goods LBlock k.Name = refl
goods LSomeItems k.Name = refl
goods LFirst k.Code = refl
goods LMoreItems k.Name = refl
goods LItem k.Code = refl
goods LTuple k.LeftAngle = refl
goods LDatums k.RightAngle = refl
goods LMoreDatums k.Comma = refl
goods LW k.Pack = refl
goods LWordArgs k.LeftBracket = refl
goods LWordPacked k.LeftBracket = refl
goods LMoreBlocks k.Name = refl
goods LBinds k.LeftBracket = refl
goods LNames k.Name = refl
goods LMoreNames k.Comma = refl
goods LFile k.LeftBrace = refl
goods LRegs k.RightBrace = refl
goods LMoreRegs k.Comma = refl
goods LT k.All = refl
goods LFields k.RightAngle = refl
goods LMoreFields k.Comma = refl
goods LTypes k.LeftBracket = refl
goods LTypeList k.RightBracket = refl
goods LSomeTypes k.Int = refl
goods LMoreTypes k.Comma = refl
goods LV k.Pack = refl
goods LArgs k.LeftBracket = refl
goods LPacked k.LeftBracket = refl
goods LTo k.Name = refl
goods LAt k.Name = refl
goods LIndex k.LeftBracket = refl
goods LTarget k.LeftBracket = refl
goods LInt k.LeftBracket = refl
goods LI k.Add = refl
goods LMoreSteps k.Add = refl
goods LEnd k.Jmp = refl
goods _ _ = refl

pub quiet : (n : Line) (c : Kind) (s : Span) → quiet_row table filling n (tok c s) ≡ true
quiet LMoreBlocks k.Name s = refl
quiet LMoreItems k.Name s = refl
quiet LMoreDatums k.Comma s = refl
quiet LWordArgs k.LeftBracket s = refl
quiet LMoreNames k.Comma s = refl
quiet LMoreRegs k.Comma s = refl
quiet LMoreFields k.Comma s = refl
quiet LMoreTypes k.Comma s = refl
quiet LArgs k.LeftBracket s = refl
quiet LMoreSteps k.Add s = refl
quiet _ _ s = refl

pub wanted : (n : Line) → 0 < wants n
wanted LMoreNames = omega arith
wanted LMoreRegs = omega arith
wanted LMoreFields = omega arith
wanted LMoreTypes = omega arith
wanted LMoreDatums = omega arith
wanted LMoreBlocks = omega arith
wanted LSomeItems = omega arith
wanted LFirst = omega arith
wanted LMoreItems = omega arith
wanted LHeader = omega arith
wanted LProgram = omega arith
wanted _ = omega arith

silent : (n : Line) → may_end n ≡ true → (w : List Token) → AtLeast table filling (wants n) w →
    (s : Stack) (vs : List Val) → exec w (Nt n ∷ s) vs ≡ exec w s vs
silent n e w h s vs = rules.silent table filling (λ m c. quiet m c.kind c.span) n e w h s vs

-- what a block that takes nothing makes of what stands below its word
abbrev coded : List Val → List Val
coded vs =
    let head = OfToken (tok k.Dot here) ∷ (OfFile (ending (raw_regs []) 0) ∷ (OfNames [] ∷ vs)) in
    let end = OfToken (tok k.LeftBracket here) ∷ (OfToken (tok k.Halt here) ∷ (OfSteps [] ∷ head)) in
    act MakeBlock (act MakeHalt (act MakeInt (OfToken (tok k.RightBracket here) ∷ (OfToken (tok k.Int here) ∷ end))))

abbrev code_counts : ℕ → List ℕ
code_counts m =
    suc m ∷ (suc m ∷ (suc m ∷ (suc m ∷ (m ∷ (m ∷ (suc m ∷ (suc m ∷ (suc m ∷ []))))))))

read_code : (w : List Token) (s : Stack) (vs : List Val) →
    exec (code ++ w) (code_owed ++ s) vs ≡ seen (code_counts (marks s)) (exec w s (coded vs))
read_code w s vs = next _ (next _ (next _ (next _ (next _ (next _ (next _ (next _ (next _
    (marked w MakeInt (Do MakeHalt ∷ (Do MakeBlock ∷ s)) _ ∙
    (do_now w MakeHalt (Do MakeBlock ∷ s) _ ∙ do_now w MakeBlock s _))))))))))

read_first : (w : List Token) → AtLeast table filling 2 w → (s : Stack) (vs : List Val) →
    exec (code ++ w) (code_owed ++ Do MakeBlockItem ∷ (items_tail ++ s)) vs ≡
    seen (code_counts (marks s)) (exec w s (act MakeNextItem (act MakeBlockItem (coded vs))))
read_first w h s vs =
    read_code w (Do MakeBlockItem ∷ (items_tail ++ s)) vs ∙ under (code_counts (marks s))
    (do_now w MakeBlockItem (items_tail ++ s) _ ∙
    (do_now w MakeNextItem (Nt LMoreItems ∷ s) _ ∙ silent LMoreItems refl w h s _))

abbrev Filled : Line → List Token → Stack → List Val → Type 0
Filled n w s vs = Least table n (least n) w s vs

pub reads : (n : Line) → may_end n ≡ false → (w : List Token) → AtLeast table filling (wants n) w →
    (s : Stack) (vs : List Val) → Filled n w s vs
reads LProgram e w h s vs = record {
  made = _;
  counts = _ ∷ (_ ∷ (_ ∷ (_ ∷ (_ ∷ (_ ∷ (_ ∷ (_ ∷ (_ ∷ (_ ∷ (_ ∷ (_ ∷ (_ ∷ (_ ∷ [])))))))))))));
  leads = next _ (next _ (next _ (next _ (next _
      (read_code w (Do MakeFirstBlock ∷ (Nt LMoreBlocks ∷ (Do MakeHeaded ∷ (Do MakeProgram ∷ s)))) _ ∙
      under (code_counts (marks s)) (do_now w MakeFirstBlock _ _ ∙
      (silent LMoreBlocks refl w h (Do MakeHeaded ∷ (Do MakeProgram ∷ s)) _ ∙
      (do_now w MakeHeaded _ _ ∙ do_now w MakeProgram s _))))))));
}
reads LHeader e w h s vs = record {
  made = _;
  counts = _ ∷ (_ ∷ (_ ∷ (_ ∷ (_ ∷ (_ ∷ (_ ∷ (_ ∷ (_ ∷ (_ ∷ (_ ∷ (_ ∷ (_ ∷ []))))))))))));
  leads = next _ (next _ (next _ (next _
      (read_code w (Do MakeFirstBlock ∷ (Nt LMoreBlocks ∷ (Do MakeHeaded ∷ s))) _ ∙
      under (code_counts (marks s)) (do_now w MakeFirstBlock _ _ ∙
      (silent LMoreBlocks refl w h (Do MakeHeaded ∷ s) _ ∙ do_now w MakeHeaded s _))))));
}
reads LBlock e w h s vs = record {
  made = _;
  counts = _ ∷ (_ ∷ (_ ∷ (_ ∷ (_ ∷ (_ ∷ (_ ∷ (_ ∷ (_ ∷ (_ ∷ (_ ∷ (_ ∷ [])))))))))));
  leads = next _ (next _ (next _ (read_code w s _)));
}
reads LSomeItems e w h s vs = record {
  made = _;
  counts = _ ∷ (_ ∷ (_ ∷ (_ ∷ (_ ∷ (_ ∷ (_ ∷ (_ ∷ (_ ∷ (_ ∷ (_ ∷ (_ ∷ [])))))))))));
  leads = next _ (next _ (next _ (read_first w h s _)));
}
reads LFirst e w h s vs = record {
  made = _;
  counts = _ ∷ (_ ∷ (_ ∷ (_ ∷ (_ ∷ (_ ∷ (_ ∷ (_ ∷ (_ ∷ (_ ∷ [])))))))));
  leads = next _ (read_first w h s _);
}
reads LItem e w h s vs = record {
  made = _;
  counts = _ ∷ (_ ∷ (_ ∷ []));
  leads = next _ (next _ (next _ (do_now w MakeNoDatums _ _ ∙
      (marked w MakeTuple (Do MakeDataItem ∷ s) _ ∙ do_now w MakeDataItem s _))));
}
reads LTuple e w h s vs = record {
  made = _;
  counts = _ ∷ (_ ∷ []);
  leads = next _ (next _ (do_now w MakeNoDatums _ _ ∙ marked w MakeTuple s _));
}
reads LDatums e w h s vs = record { made = _; counts = _ ∷ []; leads = next _ (do_now w MakeNoDatums s _) }
reads LW e w h s vs = record {
  made = OfWord (RPlain (RNum (pos 0)) [], here) ∷ vs;
  counts = marks s ∷ [];
  leads = next _ (do_now w MakeWord (Nt LWordArgs ∷ s) _ ∙ silent LWordArgs refl w h s _);
}
reads LWordPacked e w h s vs = record {
  made = _;
  counts = _ ∷ (_ ∷ (_ ∷ (_ ∷ (_ ∷ []))));
  leads = next _ (next _ (next _ (next _ (next _ (marked w MakeWordPacked s _)))));
}
reads LBinds e w h s vs =
    record {
      made = _;
      counts = _ ∷ (_ ∷ []);
      leads = next _ (next _ (do_now w MakeNoNames _ _ ∙ marked w MakeBinds s _));
    }
reads LNames e w h s vs = record { made = _; counts = _ ∷ []; leads = next _ (do_now w MakeNoNames s _) }
reads LFile e w h s vs =
    record {
      made = _;
      counts = _ ∷ (_ ∷ []);
      leads = next _ (next _ (do_now w MakeNoRegs _ _ ∙ marked w MakeFile s _));
    }
reads LRegs e w h s vs = record { made = _; counts = _ ∷ []; leads = next _ (do_now w MakeNoRegs s _) }
reads LT e w h s vs = record { made = _; counts = _ ∷ []; leads = next _ (do_now w MakeTypeInt s _) }
reads LFields e w h s vs = record { made = _; counts = _ ∷ []; leads = next _ (do_now w MakeNoFields s _) }
reads LTypes e w h s vs =
    record {
      made = _;
      counts = _ ∷ (_ ∷ []);
      leads = next _ (next _ (do_now w MakeNoTypes _ _ ∙ marked w MakeTypes s _));
    }
reads LTypeList e w h s vs = record { made = _; counts = _ ∷ []; leads = next _ (do_now w MakeNoTypes s _) }
reads LSomeTypes e w h s vs =
    record { made = _; counts = _ ∷ (_ ∷ []); leads = next _ (next _ (do_now w MakeClosedTypes s _)) }
reads LV e w h s vs =
    record {
      made = OfValue (ending (RPlain (RNum (pos 0)) []) 0) ∷ vs;
      counts = marks s ∷ [];
      leads = next _ (do_now w MakeBase (Nt LArgs ∷ s) _ ∙ silent LArgs refl w h s _);
    }
reads LPacked e w h s vs =
    record {
      made = _;
      counts = _ ∷ (_ ∷ (_ ∷ (_ ∷ (_ ∷ []))));
      leads = next _ (next _ (next _ (next _ (next _ (marked w MakePacked s _)))));
    }
reads LTo e w h s vs = record { made = _; counts = _ ∷ (_ ∷ []); leads = next _ (next _ (do_now w MakeTo s _)) }
reads LAt e w h s vs =
    record {
      made = _;
      counts = _ ∷ (_ ∷ (_ ∷ (_ ∷ [])));
      leads = next _ (next _ (next _ (next _ (marked w MakeIndex (Do MakeAt ∷ s) _ ∙ do_now w MakeAt s _))));
    }
reads LIndex e w h s vs =
    record { made = _; counts = _ ∷ (_ ∷ (_ ∷ [])); leads = next _ (next _ (next _ (marked w MakeIndex s _))) }
reads LTarget e w h s vs =
    record {
      made = _;
      counts = _ ∷ (_ ∷ (_ ∷ (_ ∷ (_ ∷ []))));
      leads = next _ (next _ (next _ (next _ (next _ (marked w MakeTarget s _)))));
    }
reads LInt e w h s vs =
    record { made = _; counts = _ ∷ (_ ∷ (_ ∷ [])); leads = next _ (next _ (next _ (marked w MakeInt s _))) }
reads LI e w h s vs =
    record {
      made = _;
      counts = _ ∷ (_ ∷ (_ ∷ (_ ∷ [])));
      leads = next _
          (next _ (next _
          (next _ (do_now w MakeNoTypes _ _ ∙ (marked w MakeTypes (Do MakeMalloc ∷ s) _ ∙ do_now w MakeMalloc s _)))));
    }
reads LEnd e w h s vs =
    record {
      made = _;
      counts = _ ∷ (_ ∷ (_ ∷ (_ ∷ [])));
      leads = next _ (next _ (next _ (next _ (marked w MakeInt (Do MakeHalt ∷ s) _ ∙ do_now w MakeHalt s _))));
    }
reads _ e w h s vs = absurd (cc)
