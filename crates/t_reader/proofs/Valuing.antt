-- The names of values and of bodies: how a whole follows from its parts.
use Rattle.std.proofs.Common.{◌≡◌, ℕ, ◌+◌, ◌<◌, ◌≤◌, List, [], ◌∷◌, ◌++◌, length, map, drop, get_or, Vec, Global, refl}
use Rattle.std.proofs.Common.{sym, ◌∙◌, ap, append_assoc, Box, Some, None}
use Rattle.std.proofs.lemmas.List.{append-nil}
use Rattle.std.proofs.Math.ListN.{drop_of_length-le}
use Rattle.idx_core.specs.declared.span.Span.{Span}
use Rattle.idx_core.specs.Names.{Name}
use Rattle.t_types.specs.declared.types.TType.{TType}
use Rattle.t_types.specs.Read.{tree, types}
use Rattle.t_terms.specs.declared.fault.TCode.TheVariants.{T05}
use Rattle.t_terms.specs.declared.value.Base.{Base}
use Rattle.t_terms.specs.declared.value.Value.{Value}
use Rattle.t_terms.specs.declared.value.Value.TheVariants as V
use Rattle.t_terms.specs.declared.instr.Instr.{Instr}
use Rattle.t_terms.specs.Tree.{TBase, TInstr, Pack}
use Rattle.t_terms.specs.Read as read
use Rattle.t_text.specs.Names.{Labels, spelled, named_by, types_of, base_of, value_of, instr_of, body_of, scope_after}
use Rattle.t_text.specs.Names.{scope_after_all}
use Rattle.t_text.specs.NameFaults.{type_faults, types_faults, base_faults, value_faults, instr_faults, body_faults}
use Rattle.t_shapes.specs.declared.raw_types.RawType.{RawType}
use Rattle.t_shapes.specs.RawTypes.{raw}
use Rattle.t_shapes.specs.declared.raw.RawBase.{RawBase}
use Rattle.t_shapes.specs.declared.raw.RawBase.TheVariants as RB
use Rattle.t_shapes.specs.declared.raw.RawValue.{RawValue}
use Rattle.t_shapes.specs.declared.raw.RawValue.TheVariants as RV
use Rattle.t_shapes.specs.declared.raw.RawPack.{RawPack}
use Rattle.t_shapes.specs.declared.raw.RawInstr.{RawInstr}
use Rattle.t_shapes.specs.Raw.{raw_base, raw_value, raw_pack, raw_instr, raw_step}
use Rattle.t_reader.specs.Resolve.{StopsAt}
use Rattle.t_terms.specs.declared.fault.TFault.{TFault}
use Rattle.t_terms.specs.declared.fault.TFault.TheVariants.{Refused}
use Rattle.t_reader.proofs.Found.{stop_left, stop_right, none_both}
use Rattle.t_reader.proofs.Naming.{Done}
use Rattle.idx_core.proofs.Lists.{next_item}

module _ (text : List ℕ) (ls : Labels) (b : RawBase) (s : Span) where
  pub label_stop : b ≡ RB.Label s → named_by (spelled text s) ls ≡ None →
      StopsAt (base_faults text ls (raw_base b)) (Refused T05 s)
  label_stop e f = ([], rw (e, f) refl)

  pub label_whole : (t : TBase) (r : Base) → b ≡ RB.Label s → named_by (spelled text s) ls ≡ Some t → read.base r ≡ t →
      (base_faults text ls (raw_base b) ≡ []) × (read.base r ≡ base_of text ls (raw_base b))
  label_whole t r e f q = (rw (e, f) refl, q ∙ rw (e, f) refl)

-- the value that was found, with the names in scope after it
abbrev pub Valued : List ℕ → Labels → List Name → RawValue → List Name → Value → Type 0
Valued text ls a v b x =
    (b ≡ a) × (value_faults text ls a (raw_value v) ≡ []) × (read.value x ≡ value_of text ls a (raw_value v))

module _ (text : List ℕ) (ls : Labels) (a : List Name) (v : RawValue) where
  module _ (rb : RawBase) (ts : Vec RawType Global) (us : List RawType) (e : v ≡ RV.Plain rb ts)
      (p : us ≡ ts.items) where
    pub plain_base_stop : (s : TFault) → StopsAt (base_faults text ls (raw_base rb)) s →
        StopsAt (value_faults text ls a (raw_value v)) s
    plain_base_stop s h = rw (e, ← p) (stop_left _ _ s h)

    module _ (b : Base) where
      pub plain_types_stop : (s : TFault) → (base_faults text ls (raw_base rb) ≡ [])
          × (read.base b ≡ base_of text ls (raw_base rb)) → StopsAt (types_faults text a (map raw us)) s →
          StopsAt (value_faults text ls a (raw_value v)) s
      plain_types_stop s g h = rw (e, ← p) (stop_right _ _ s g.0 h)

      pub plain_whole : (made : Vec TType Global) (c : List Name) → (base_faults text ls (raw_base rb) ≡ [])
          × (read.base b ≡ base_of text ls (raw_base rb)) →
          (c ≡ a) × (types_faults text a (map raw us) ≡ []) × (types made.items ≡ types_of text a (map raw us)) →
          Valued text ls a v c (V.Plain b made)
      plain_whole made c g h = (h.0, rw (e, ← p) (none_both _ _ g.0 h.1), rw (e, ← p, g.1, h.2) refl)

pub pack_value : (v : RawValue) (box : Box RawPack Global) (pack : RawPack) → v ≡ RV.Pack box → box.value ≡ pack →
    raw_value v ≡ raw_pack pack
pack_value v box pack e y = rw (e, y) refl

module _ (text : List ℕ) (ls : Labels) (a : List Name) (pack : RawPack) where
  pub pack_1_stop : (s : TFault) → StopsAt (type_faults text a (raw pack.hidden)) s →
      StopsAt (value_faults text ls a (raw_pack pack)) s
  pack_1_stop s h = stop_left _ _ s h

  module _ (b : List Name) (t : TType) (d : Done text a pack.hidden b t) where
    pub pack_2_stop : (s : TFault) → StopsAt (value_faults text ls b (raw_value pack.inner)) s →
        StopsAt (value_faults text ls a (raw_pack pack)) s
    pack_2_stop s h = stop_right _ _ s d.1 (stop_left _ _ s (rw d.0 at h))

    module _ (c : List Name) (x : Value) (g : Valued text ls b pack.inner c x) where
      pub pack_3_stop : (s : TFault) → StopsAt (type_faults text c (raw pack.shape)) s →
          StopsAt (value_faults text ls a (raw_pack pack)) s
      pack_3_stop s h = stop_right _ _ s d.1 (stop_right _ _ s (rw d.0 at g.1) (rw (g.0, d.0) at h))

      pub pack_whole : (f : List Name) (u : TType) → Done text c pack.shape f u → (z : Value) →
          read.value z ≡ Pack (tree t) (read.value x) (tree u) →
          (f ≡ a) × (value_faults text ls a (raw_pack pack) ≡ [])
          × (read.value z ≡ value_of text ls a (raw_pack pack))
      pack_whole f u h z q = (
        h.0 ∙ (g.0 ∙ d.0),
        none_both _ _ d.1 (none_both _ _ (rw d.0 at g.1) (rw (g.0, d.0) at h.1)),
        q ∙ rw (d.2, rw d.0 at g.2, rw (g.0, d.0) at h.2) refl,
      )

-- a body, of which the instructions from k on are left
pub record BodyLeft (text : List ℕ) (ls : Labels) (a : List Name) (xs : List (RawInstr × Span)) (k : ℕ) (b : List Name)
    (made : List (Instr × Span)) : Type 0 where
  pub names : scope_after_all text (map raw_step xs) a ≡ scope_after_all text (map raw_step (drop k xs)) b
  pub faults : body_faults text ls a (map raw_step xs) ≡ body_faults text ls b (map raw_step (drop k xs))
  pub trees : body_of text ls a (map raw_step xs) ≡ read.body made ++ body_of text ls b (map raw_step (drop k xs))

body_append : (xs ys : List (Instr × Span)) → read.body (xs ++ ys) ≡ read.body xs ++ read.body ys
body_append [] ys = refl
body_append (x ∷ xs) ys = ap (λ (zs : List (TInstr × Span)). (read.instr x.0, x.1) ∷ zs) (body_append xs ys)

module _ (text : List ℕ) (ls : Labels) (a : List Name) (xs : List (RawInstr × Span)) where
  pub body_start : BodyLeft text ls a xs 0 a []
  body_start = record { names = refl; faults = refl; trees = refl }

  module _ (k : ℕ) (b : List Name) (made : List (Instr × Span)) (x : RawInstr × Span) (l : k < length xs)
      (i : x ≡ get_or xs k x) (h : BodyLeft text ls a xs k b made) where
    at_step : body_faults text ls a (map raw_step xs) ≡ instr_faults text ls b (raw_instr x.0)
        ++ body_faults text ls (scope_after text (raw_instr x.0) b) (map raw_step (drop (k + 1) xs))
    at_step = h.faults ∙ rw (next_item xs k x i l) refl

    pub body_stop : (s : TFault) → StopsAt (instr_faults text ls b (raw_instr x.0)) s →
        StopsAt (body_faults text ls a (map raw_step xs)) s
    body_stop s f = rw at_step (stop_left _ _ s f)

    pub body_next : (c : List Name) (t : Instr) (more : List (Instr × Span)) →
        (c ≡ scope_after text (raw_instr x.0) b) × (instr_faults text ls b (raw_instr x.0) ≡ [])
        × (read.instr t ≡ instr_of text ls b (raw_instr x.0)) → more ≡ made ++ (t, x.1) ∷ [] →
        BodyLeft text ls a xs (k + 1) c more
    body_next c t more d m = record {
      names = h.names ∙ rw (next_item xs k x i l, d.0) refl;
      faults = at_step ∙ rw (d.1, d.0) refl;
      trees = h.trees
          ∙ rw (
            next_item xs k x i l,
            m,
            body_append made ((t, x.1) ∷ []),
            append_assoc (read.body made) ((read.instr t, x.1) ∷ [])
                (body_of text ls c (map raw_step (drop (k + 1) xs))),
            d.2,
            d.0,
          ) refl;
    }

  pub body_whole : (k : ℕ) (b : List Name) (made : List (Instr × Span)) → length xs ≤ k →
      BodyLeft text ls a xs k b made →
      (b ≡ scope_after_all text (map raw_step xs) a) × (body_faults text ls a (map raw_step xs) ≡ [])
      × (read.body made ≡ body_of text ls a (map raw_step xs))
  body_whole k b made l h =
      let n : drop k xs ≡ [] = drop_of_length-le xs l in
      (sym (h.names ∙ rw n refl), h.faults ∙ rw n refl, sym (h.trees ∙ (rw n refl ∙ append-nil (read.body made))))
