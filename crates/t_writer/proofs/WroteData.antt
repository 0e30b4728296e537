-- Data tuples that are written stand for themselves.
use Rattle.std.proofs.Common.{◌≡◌, ◌≤◌, ◌<◌, ◌^◌, ℕ, suc, ◌+◌, List, [], ◌∷◌, ◌++◌, length, map, codes, Bool, true}
use Rattle.std.proofs.Common.{refl, sym, ap, ap₂, ◌∙◌, arith, subst, append_assoc}
use Rattle.std.proofs.lemmas.List.{append-nil}
use Rattle.idx_core.specs.declared.span.Span.{Span}
use Rattle.idx_core.specs.Names.{Name}
use Rattle.t_types.specs.Tree.{Ty}
use Rattle.t_text.specs.declared.token.Kind.TheVariants as k
use Rattle.t_text.specs.declared.token.Token.{Token}
use Rattle.t_terms.specs.Tree.{TBase, TValue, Plain, Pack, TDatum, TData, Data}
use Rattle.t_terms.specs.Spanned.{plain_fields, plain_heap}
use Rattle.t_text.specs.Raw.{RawTy, RawBase, RawValue, RPlain, RPack, RawDatum, RawItem, DataItem, blocks_in, data_in}
use Rattle.t_text.specs.Raw.{Piece, up_to}
use Rattle.t_text.specs.Grammar.{tok, T, N, n_reg, n_plain, n_negative, n_label, Q, q_plain, q_negative, q_label, W}
use Rattle.t_text.specs.Grammar.{w_base, w_apply, w_pack, datum, Ds, ds_one, ds_more, Tuple, tu_none, tu_fields, Item}
use Rattle.t_text.specs.Grammar.{it_data, Items, its_more}
use Rattle.t_text.specs.Names.{spelled, Labels, base_of, value_of, datum_of, data_of, item_labels}
use Rattle.t_text.specs.NameFaults.{value_faults, data_faults, items_faults}
use Rattle.t_terms.specs.Whole.{WellFormedValue, HasNoRegister, WellFormedDatum, WellFormedData, WellFormedHeap}
use Rattle.t_terms.specs.Values.{DataValues, HeapValues}
use Rattle.t_terms.specs.Whole.{ValueFits}
use Rattle.t_writer.specs.Lexeme.{Reserved, DataName, Sign, bytes}
use Rattle.t_writer.specs.Lexeme.{comma, left_angle, left_bracket, right_angle, right_bracket}
use Rattle.t_writer.specs.Written.{space, line_end, base_written, type_written, types_written, list_written}
use Rattle.t_writer.specs.Written.{value_written, datum_written, data_fields_written, data_written, heap_written}
use Rattle.t_writer.proofs.Placed as placing
use Rattle.t_writer.proofs.Placed.{size, placed, placed_append, stops, Fine, fine_append, Written, written_append}
use Rattle.t_writer.proofs.Scopes.{data_name, data_from, data_before, not_data_before}
use Rattle.t_writer.proofs.WroteTypes.{wrote_type, wrote_types}
use Rattle.t_writer.proofs.WroteCode.{labels, wrote_base}
use Rattle.t_writer.proofs.WroteBlocks.{items_along}

stops_fields : (i : ℕ) (xs : TData) → stops (data_fields_written (suc i) xs) true ≡ true
stops_fields i [] = refl
stops_fields i (x ∷ xs) = refl

-- one field more, and then others
fields_along : (u v w y : List Token) (m c : Span) (rs more : List RawDatum) (r : RawDatum) →
    Ds ((u ++ tok k.Comma m ∷ (v ++ tok k.Colon c ∷ w)) ++ y) ((rs ++ r ∷ []) ++ more) →
    Ds (u ++ tok k.Comma m ∷ ((v ++ tok k.Colon c ∷ w) ++ y)) (rs ++ r ∷ more)
fields_along u v w y m c rs more r h = rw (append_assoc v (tok k.Colon c ∷ w) y) (simp append_assoc at h)

-- in a program of p blocks and q data tuples
module _ (text : List ℕ) (p q : ℕ) (few : p ≤ 2 ^ 64) (small : q ≤ 2 ^ 64) where
  abbrev names : Labels
  names = labels text p q few small

  -- a base that is no register may stand in data
  quiet : {t : Token} {raw : RawBase} (b : TBase) (ts : List Ty) → HasNoRegister (Plain b ts) →
      base_of text names raw ≡ b → N t raw → Q t raw
  quiet b ts h e (n_reg r s) = absurd (subst (λ x. HasNoRegister (Plain x ts)) (sym e) h)
  quiet b ts h e (n_plain z s) = q_plain z s
  quiet b ts h e (n_negative z s) = q_negative z s
  quiet b ts h e (n_label s) = q_label s

  record WroteWord (i : ℕ) (v : TValue) : Type 0 where
    raw : RawValue × Span
    whole : W (placed i (value_written 0 v)) raw
    fine : Fine (value_written 0 v) true
    means : value_of text names [] raw.0 ≡ v
    none : value_faults text names [] raw.0 ≡ []

  wrote_word : (i : ℕ) (v : TValue) → WellFormedValue p q 0 v → HasNoRegister v → ValueFits v →
      Written text i (value_written 0 v) → WroteWord i v
  wrote_word i (Plain b []) h r f w =
      let a = wrote_base text p q few small i b h.0 f (w.0, tt) in
      record {
        raw = (RPlain a.raw [], a.token.span);
        whole = rw a.at (w_base (quiet b [] r a.means a.whole));
        fine = (a.valid, a.follows [] refl, tt);
        means = ap (λ (x : TBase). Plain x []) a.means;
        none = rw a.none refl;
      }
  wrote_word i (Plain b (t ∷ ts)) h r f w =
      let last = right_bracket ∷ [] in
      let ls = types_written 0 0 (t ∷ ts) in
      let j = i + length (bytes (base_written b)) + 1 in
      let a = wrote_base text p q few small i b h.0 f (w.0, tt) in
      let y = wrote_types text j 0 t ts (omega arith) h.1 (written_append text j ls last w.1.1).0 in
      let o = placing.place_of (i + length (bytes (base_written b))) left_bracket in
      let c = placing.place_of (j + size ls) right_bracket in
      record {
        raw = (RPlain a.raw y.raw, up_to a.token.span c.end);
        whole = rw (a.at, placed_append j ls last) (w_apply o c (quiet b (t ∷ ts) r a.means a.whole) y.whole);
        fine = (
          a.valid,
          a.follows (list_written 0 (t ∷ ts)) refl,
          ((refl, tt), tt, fine_append ls last true y.fine ((refl, tt), tt, tt)),
        );
        means = ap₂ (λ (x : TBase) (us : List Ty). Plain x us) a.means y.means;
        none = rw (a.none, y.none) refl;
      }
  wrote_word i (Pack t v s) h r f w =
      let last = right_bracket ∷ (space ∷ (Reserved (codes "as") ∷ (space ∷ type_written 0 s))) in
      let rest = comma ∷ (space ∷ (value_written 0 v ++ last)) in
      let j = i + 4 + 1 in
      let c = j + size (type_written 0 t) in
      let m = c + 1 + 1 in
      let e = m + size (value_written 0 v) in
      let x = written_append text j (type_written 0 t) rest w.1.1 in
      let y = written_append text m (value_written 0 v) last x.1.1.1 in
      let a = wrote_type text j 0 t (omega arith) h.0 x.0 in
      let b = wrote_word m v h.1 r f y.0 in
      let z = wrote_type text (e + 1 + 1 + 2 + 1) 0 s (omega arith) h.2 y.1.1.1.1.1 in
      record {
        raw = (
          RPack a.piece.tree b.raw.0 z.piece.tree,
          up_to (placing.place_of i (Reserved (codes "pack"))) z.piece.end,
        );
        whole = rw (placed_append j (type_written 0 t) rest, placed_append m (value_written 0 v) last)
            (w_pack _ _ _ _ _ a.whole b.whole z.whole);
        fine = (
          (refl, tt),
          refl,
          (
            (refl, tt),
            tt,
            fine_append (type_written 0 t) rest true a.fine (
              (refl, tt),
              tt,
              (
                refl,
                tt,
                fine_append (value_written 0 v) last true b.fine
                    ((refl, tt), tt, (refl, tt, ((refl, tt), refl, (refl, tt, z.fine)))),
              ),
            ),
          ),
        );
        means = rw (a.means, b.means, z.means) refl;
        none = rw (a.none, b.none, z.none) refl;
      }

  -- a value and the type that is written for it
  record WroteDatum (i : ℕ) (x : TDatum) : Type 0 where
    word : RawValue × Span
    ty : Piece RawTy
    colon : Span
    value_tokens : List Token
    type_tokens : List Token
    at : placed i (datum_written x) ≡ value_tokens ++ tok k.Colon colon ∷ type_tokens
    whole_word : W value_tokens word
    whole_type : T type_tokens ty
    fine : Fine (datum_written x) true
    means : record { value = value_of text names [] word.0; ty = (datum_of text names (datum word ty.tree)).ty } ≡ x
    none : data_faults text names (datum word ty.tree ∷ []) ≡ []

  wrote_datum : (i : ℕ) (x : TDatum) → WellFormedDatum p q x → ValueFits x.value → Written text i (datum_written x) →
      WroteDatum i x
  wrote_datum i x h f w =
      let rest = space ∷ (Sign 58 ∷ (space ∷ type_written 0 x.ty)) in
      let c = i + size (value_written 0 x.value) + 1 in
      let j = c + 1 + 1 in
      let v = written_append text i (value_written 0 x.value) rest w in
      let a = wrote_word i x.value h.0 h.1 f v.0 in
      let t = wrote_type text j 0 x.ty (omega arith) h.2 v.1.1.1.1 in
      record {
        word = a.raw;
        ty = t.piece;
        colon = placing.place_of c (Sign 58);
        value_tokens = placed i (value_written 0 x.value);
        type_tokens = placed j (type_written 0 x.ty);
        at = placed_append i (value_written 0 x.value) rest;
        whole_word = a.whole;
        whole_type = t.whole;
        fine = fine_append (value_written 0 x.value) rest true a.fine
            (refl, tt, ((refl, tt), tt, (refl, tt, t.fine)));
        means = ap₂ (λ (u : TValue) (s : Ty). record { value = u; ty = s }) a.means t.means;
        none = rw (a.none, t.none) refl;
      }

  -- the fields after the first
  record MoreFields (i nth : ℕ) (xs : TData) : Type 0 where
    raw : List RawDatum
    extend : (u : List Token) (rs : List RawDatum) → Ds u rs →
        Ds (u ++ placed i (data_fields_written (suc nth) xs)) (rs ++ raw)
    fine : Fine (data_fields_written (suc nth) xs) true
    means : plain_fields (map (datum_of text names) raw) ≡ xs
    none : data_faults text names raw ≡ []

  one_more : (x : RawDatum) (xs : List RawDatum) → data_faults text names (x ∷ []) ≡ [] →
      data_faults text names xs ≡ [] → data_faults text names (x ∷ xs) ≡ []
  one_more x xs e g = let a = rw append-nil at e in rw (a, g) refl

  more_fields : (i nth : ℕ) (xs : TData) → WellFormedData p q xs → DataValues ValueFits xs →
      Written text i (data_fields_written (suc nth) xs) → MoreFields i nth xs
  more_fields i nth [] h f w = record {
    raw = [];
    extend = λ u rs x. rw (append-nil, append-nil) x;
    fine = tt;
    means = refl;
    none = refl;
  }
  more_fields i nth (x ∷ xs) h f w =
      let rest = data_fields_written (suc (suc nth)) xs in
      let j = i + 1 + 1 in
      let v = written_append text j (datum_written x) rest w.1.1 in
      let a = wrote_datum j x h.0 f.0 v.0 in
      let r = more_fields (j + size (datum_written x)) (suc nth) xs h.1 f.1 v.1 in
      record {
        raw = datum a.word a.ty.tree ∷ r.raw;
        extend = λ u rs y. rw (placed_append j (datum_written x) rest, a.at)
            (fields_along u a.value_tokens a.type_tokens (placed (j + size (datum_written x)) rest)
            (placing.place_of i comma) a.colon rs r.raw (datum a.word a.ty.tree)
            (r.extend _ _ (ds_more (placing.place_of i comma) a.colon y a.whole_word a.whole_type)));
        fine = (
          (refl, tt),
          tt,
          (refl, tt, fine_append (datum_written x) rest true (rw (stops_fields (suc nth) xs) a.fine) r.fine),
        );
        means = ap₂ (λ (y : TDatum) (ys : TData). y ∷ ys) a.means r.means;
        none = one_more (datum a.word a.ty.tree) r.raw a.none r.none;
      }

  -- < fields >
  record WroteTuple (i : ℕ) (xs : TData) : Type 0 where
    raw : List RawDatum
    whole : Tuple
        (placed i (left_angle ∷ (data_fields_written 0 xs ++ (right_angle ∷ (line_end ∷ []))))) raw
    fine : (b : Bool) → Fine (data_fields_written 0 xs ++ (right_angle ∷ (line_end ∷ []))) b
    means : plain_fields (map (datum_of text names) raw) ≡ xs
    none : data_faults text names raw ≡ []

  wrote_tuple : (i : ℕ) (xs : TData) → WellFormedData p q xs → DataValues ValueFits xs →
      Written text (i + 1) (data_fields_written 0 xs) → WroteTuple i xs
  wrote_tuple i [] h f w = record {
    raw = [];
    whole = tu_none _ _;
    fine = λ b. ((refl, tt), tt, (refl, tt, tt));
    means = refl;
    none = refl;
  }
  wrote_tuple i (x ∷ xs) h f w =
      let rest = data_fields_written 1 xs in
      let last = right_angle ∷ (line_end ∷ []) in
      let j = i + 1 in
      let v = written_append text j (datum_written x) rest w in
      let a = wrote_datum j x h.0 f.0 v.0 in
      let r = more_fields (j + size (datum_written x)) 0 xs h.1 f.1 v.1 in
      record {
        raw = datum a.word a.ty.tree ∷ r.raw;
        whole = rw (placed_append j (datum_written x ++ rest) last, placed_append j (datum_written x) rest)
            (tu_fields _ _
            (r.extend (placed j (datum_written x)) (datum a.word a.ty.tree ∷ [])
            (rw a.at (ds_one a.colon a.whole_word a.whole_type))));
        fine = λ b. fine_append (datum_written x ++ rest) last b
            (fine_append (datum_written x) rest true (rw (stops_fields 0 xs) a.fine) r.fine)
            ((refl, tt), tt, (refl, tt, tt));
        means = ap₂ (λ (y : TDatum) (ys : TData). y ∷ ys) a.means r.means;
        none = one_more (datum a.word a.ty.tree) r.raw a.none r.none;
      }

  -- a data tuple on its line
  record WroteData (d i : ℕ) (xs : TData) : Type 0 where
    name : Span
    raw : List RawDatum
    whole : Item (placed i (data_written d xs)) (DataItem (record { name = name; fields = raw }))
    fine : (x : Bool) → Fine (data_written d xs) x
    means : plain_fields (map (datum_of text names) raw) ≡ xs
    none : data_faults text names raw ≡ []
    spell : spelled text name ≡ data_name d

  wrote_data : (d i : ℕ) (xs : TData) → d < 2 ^ 64 → WellFormedData p q xs → DataValues ValueFits xs →
      Written text i (data_written d xs) → WroteData d i xs
  wrote_data d i xs low h f w =
      let j = i + length (bytes (DataName d)) in
      let m = j + 1 + 1 + 4 + 1 in
      let v = written_append text (m + 1) (data_fields_written 0 xs) (right_angle ∷ (line_end ∷ []))
      w.1.1.1.1.1.1 in
      let a = wrote_tuple m xs h f v.0 in
      record {
        name = placing.place_of i (DataName d);
        raw = a.raw;
        whole = it_data (placing.place_of i (DataName d)) (placing.place_of j (Sign 58))
            (placing.place_of (j + 1 + 1) (Reserved (codes "data"))) a.whole;
        fine = λ x. (
          low,
          refl,
          (
            (refl, tt),
            tt,
            (refl, tt, ((refl, tt), refl, (refl, tt, ((refl, tt), tt, a.fine x)))),
          ),
        );
        means = a.means;
        none = a.none;
        spell = w.0;
      }

  -- data tuples in turn, as the first items of a text
  pub record WroteHeap (d i : ℕ) (xs : List TData) : Type 0 where
    pub raw : List RawItem
    pub extend : (u : List Token) (rs : List RawItem) → Items u rs →
        Items (u ++ placed i (heap_written d xs)) (rs ++ raw)
    pub fine : (x : Bool) → Fine (heap_written d xs) x
    pub means : plain_heap (map (data_of text names) (data_in raw)) ≡ xs
    pub no_blocks : blocks_in raw ≡ []
    pub spell : (more : List RawItem) → item_labels text 0 d (raw ++ more) ≡ data_from d (length xs)
        ++ item_labels text 0 (d + length xs) more
    pub none : (more : List RawItem) → items_faults text names (data_before d) (raw ++ more)
        ≡ items_faults text names (data_before (d + length xs)) more

  pub wrote_heap : (d i : ℕ) (xs : List TData) → d + length xs ≤ 2 ^ 64 → WellFormedHeap p q xs →
      HeapValues ValueFits xs →
      Written text i (heap_written d xs) → WroteHeap d i xs
  wrote_heap d i [] low h f w =
      let e : d ≡ d + 0 = omega arith in
      record {
        raw = [];
        extend = λ u rs x. rw (append-nil, append-nil) x;
        fine = λ x. tt;
        means = refl;
        no_blocks = refl;
        spell = λ more. ap (λ n. item_labels text 0 n more) e;
        none = λ more. ap (λ n. items_faults text names (data_before n) more) e;
      }
  wrote_heap d i (x ∷ xs) low h f w =
      let v = written_append text i (data_written d x) (heap_written (suc d) xs) w in
      let a = wrote_data d i x (omega arith) h.0 f.0 v.0 in
      let r = wrote_heap (suc d) (i + size (data_written d x)) xs (omega arith) h.1 f.1 v.1 in
      let item = DataItem (record { name = a.name; fields = a.raw }) in
      let e : suc d + length xs ≡ d + length (x ∷ xs) = omega arith in
      record {
        raw = item ∷ r.raw;
        extend = λ u rs y. rw (placed_append i (data_written d x) (heap_written (suc d) xs))
            (items_along u (placed i (data_written d x))
            (placed (i + size (data_written d x)) (heap_written (suc d) xs)) rs r.raw item
            (r.extend _ _ (its_more y a.whole)));
        fine = λ y. fine_append (data_written d x) (heap_written (suc d) xs) y
            (a.fine (stops (heap_written (suc d) xs) y)) (r.fine y);
        means = ap₂ (λ (y : TData) (ys : List TData). y ∷ ys) a.means r.means;
        no_blocks = r.no_blocks;
        spell = λ more.
            ap₂ (λ (y : Name) (ys : Labels). (y, Data d) ∷ ys) a.spell (r.spell more)
            ∙ ap (λ n. data_from d (suc (length xs)) ++ item_labels text 0 n more) e;
        none = λ more.
            rw (a.spell, not_data_before d d (omega arith) (omega arith), a.none) (r.none more)
            ∙ ap (λ n. items_faults text names (data_before n) more) e;
      }
