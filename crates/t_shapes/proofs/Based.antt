-- Values.
use Rattle.std.proofs.Common.{◌≡◌, ℕ, ◌+◌, ◌<◌, ◌≤◌, List, [], ◌∷◌, ◌++◌, slice_get, map, refl, ap, ◌∙◌, Some, arith}
use Rattle.std.proofs.Common.{Bool, true, false}
use Rattle.std.proofs.lemmas.Option.{slice_get_within}
use Rattle.std.proofs.lemmas.List.{map-append}
use Rattle.text_core.specs.Table.{Nt, Do, Mark}
use Rattle.t_text.specs.declared.token.Token.{Token}
use Rattle.t_text.specs.declared.wanted.Wanted.TheVariants as want
use Rattle.idx_core.specs.declared.span.Span.{Span}
use Rattle.t_text.specs.Raw.{RawTy, RawBase, RawValue, RPlain, RPack, Piece, ending, up_to}
use Rattle.t_text.specs.GrammarTable.{LSomeTypes, LTypeList, MakeNoTypes, base_of, act, Val, Packed, OfToken, OfList}
use Rattle.t_text.specs.GrammarTable.{OfType, OfPacked}
use Rattle.t_text.specs.Text.{most_open}
use Rattle.t_shapes.specs.declared.raw_types.RawType.{RawType}
use Rattle.t_shapes.specs.declared.cursor.Stopped.{Stopped}
use Rattle.t_shapes.specs.declared.cursor.Stopped.TheVariants.{TooDeep}
use Rattle.t_shapes.specs.RawTypes.{raw}
use Rattle.t_shapes.specs.ReadsTypes.{Reads, Fails}
use Rattle.t_shapes.specs.Cursor.{Next, Misses}
use Rattle.t_shapes.proofs.Stepping.{Moves, within, is_next, is_of, begins, by_row, by_none, by_call, by_do, by_mark}
use Rattle.t_shapes.proofs.Stepping.{stop_call, stop_deep, lacks}
use Rattle.t_shapes.specs.Raw.{is_base}
use Rattle.t_shapes.specs.Reads.{value_line, of_value}
use Rattle.t_shapes.proofs.Lines.{args_line, make_base, make_apply, make_packed, make_pack, opens_args, base_begins}
use Rattle.t_shapes.proofs.Lines.{args_end, no_types}

pub types_more : (xs ys : List RawType) (t : RawType) → ys ≡ xs ++ t ∷ [] → map raw ys ≡ map raw xs ++ raw t ∷ []
types_more xs ys t e = ap (λ (zs : List RawType). map raw zs) e ∙ map-append raw xs (t ∷ [])

pub types_empty : (ts : List Token) (d i : ℕ) (c : Token) → d ≤ most_open → Next ts i want.RightBracket c →
    Reads LTypeList ts d i (i + 1) (OfList (ending [] c.span.end) ∷ [])
types_empty ts d i c h e = record {
  forward = omega arith;
  in_range = (let l = within ts i want.RightBracket c e in omega arith);
  same = by_do MakeNoTypes [] (OfToken c ∷ []) (OfList (ending [] c.span.end) ∷ [])
      (begins ts d i c LTypeList (Do MakeNoTypes ∷ []) (is_next ts i want.RightBracket c e)
      (no_types c.kind (is_of ts i want.RightBracket c e)) (omega arith)) (λ below. refl);
}

-- what is made of a base, and of one with types
base_made : (b : Bool) (c : Token) (below : List Val) →
    act (make_base b) (OfToken c ∷ below) ≡ of_value b (RPlain (base_of c.kind c.span) []) c.span ∷ below
base_made false c below = refl
base_made true c below = refl

apply_made : (b : Bool) (v : RawBase) (s : Span) (o : Token) (us : List RawTy) (n : ℕ) (below : List Val) →
    act (make_apply b) (OfList (ending us n) ∷ (OfToken o ∷ (of_value b (RPlain v []) s ∷ below)))
    ≡ of_value b (RPlain v us) (up_to s n) ∷ below
apply_made false v s o us n below = refl
apply_made true v s o us n below = refl

-- what is made of the parts of a package, and of a package
pub packed_made : (b : Bool) (v : RawValue) (s : Span) (t : RawTy) (n : ℕ) (o m c : Token) (below : List Val) →
    act (make_packed b)
    (OfToken c ∷ (of_value b v s ∷ (OfToken m ∷ (OfType (ending t n) ∷ (OfToken o ∷ below)))))
    ≡ OfPacked (record { hidden = t; inner = v }) ∷ below
packed_made false v s t n o m c below = refl
packed_made true v s t n o m c below = refl

pub pack_made : (b : Bool) (x : Packed) (shape : Piece RawTy) (p a : Token) (below : List Val) →
    act (make_pack b) (OfType shape ∷ (OfToken a ∷ (OfPacked x ∷ (OfToken p ∷ below))))
    ≡ of_value b (RPack x.hidden x.inner shape.tree) (up_to p.span shape.end) ∷ below
pack_made false x shape p a below = refl
pack_made true x shape p a below = refl

-- a base, with types after it or none
module _ (b : Bool) (ts : List Token) (d i : ℕ) (c : Token) (e : slice_get ts i ≡ Some c)
    (k : is_base b c.kind ≡ true) (h : d ≤ most_open) where
  abbrev alone : Val
  alone = of_value b (RPlain (base_of c.kind c.span) []) c.span

  after_base : Moves ts d i (Nt (value_line b) ∷ []) [] (i + 1) (Nt (args_line b) ∷ []) (alone ∷ [])
  after_base =
      by_do (make_base b) (Nt (args_line b) ∷ []) (OfToken c ∷ []) (alone ∷ [])
      (begins ts d i c (value_line b) (Do (make_base b) ∷ (Nt (args_line b) ∷ [])) e (base_begins b c.kind k)
      (omega arith)) (λ below. base_made b c below)

  pub base_alone : Misses ts (i + 1) want.LeftBracket → Reads (value_line b) ts d i (i + 1) (alone ∷ [])
  base_alone m = record {
    forward = omega arith;
    in_range = (let l = slice_get_within ts i c e in omega arith);
    same = by_none (args_line b) [] _ after_base (args_end b)
        (lacks ts (i + 1) (args_line b) want.LeftBracket _ (opens_args b) m);
  }

  module _ (o : Token) (f : Next ts (i + 1) want.LeftBracket o) where
    pub args_too_deep : (s : Stopped) → (s ≡ TooDeep (i + 1)) × (most_open ≤ d) →
        Fails ts d i (Nt (value_line b) ∷ []) [] s
    args_too_deep s p =
        stop_deep s o (args_line b) (Nt LSomeTypes ∷ (Mark ∷ (Do (make_apply b) ∷ []))) [] _ after_base
        (is_next ts (i + 1) want.LeftBracket o f)
        ((opens_args b).takes o.kind (is_of ts (i + 1) want.LeftBracket o f)) refl p

    module _ (l : d < most_open) (m : ℕ) (q : m ≡ d + 1) where
      in_args : Moves ts d i (Nt (value_line b) ∷ []) [] (i + 1 + 1)
          (Nt LSomeTypes ∷ (Mark ∷ (Do (make_apply b) ∷ []))) (OfToken o ∷ (alone ∷ []))
      in_args = by_row o (args_line b) (Nt LSomeTypes ∷ (Mark ∷ (Do (make_apply b) ∷ []))) [] _ after_base
          (is_next ts (i + 1) want.LeftBracket o f)
          ((opens_args b).takes o.kind (is_of ts (i + 1) want.LeftBracket o f)) (omega arith)

      pub args_stop : (s : Stopped) → Fails ts m (i + 1 + 1) (Nt LSomeTypes ∷ []) [] s →
          Fails ts d i (Nt (value_line b) ∷ []) [] s
      args_stop s g =
          stop_call s (Nt LSomeTypes ∷ []) m (Mark ∷ (Do (make_apply b) ∷ [])) _ in_args (omega (arith, q)) g

      pub base_applied : (j n : ℕ) (us : List RawTy) →
          Reads LSomeTypes ts m (i + 1 + 1) j (OfList (ending us n) ∷ []) →
          Reads (value_line b) ts d i j (of_value b (RPlain (base_of c.kind c.span) us) (up_to c.span n) ∷ [])
      base_applied j n us r = record {
        forward = (let x = r.forward in omega arith);
        in_range = r.in_range;
        same = by_do (make_apply b) [] _ _
            (by_mark (Do (make_apply b) ∷ []) _
            (by_call m (Mark ∷ (Do (make_apply b) ∷ [])) _ in_args (omega (arith, q)) r.same))
            (λ below. apply_made b (base_of c.kind c.span) c.span o us n below);
      }
