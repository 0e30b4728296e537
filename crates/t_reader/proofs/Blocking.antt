-- The names of blocks: how a whole follows from its parts.
use Rattle.std.proofs.Common.{◌≡◌, ℕ, List, [], length, map, Vec, Global, refl}
use Rattle.idx_core.specs.declared.span.Span.{Span}
use Rattle.idx_core.specs.Names.{Name}
use Rattle.t_types.specs.declared.types.TType.{TType}
use Rattle.t_types.specs.Read.{file}
use Rattle.t_terms.specs.declared.instr.Instr.{Instr}
use Rattle.t_terms.specs.declared.instr.End.{End}
use Rattle.t_text.specs.Raw.{raw_regs}
use Rattle.t_terms.specs.Read as read
use Rattle.t_text.specs.Names.{Labels, bind, file_of, body_of, end_of, block_of, scope_after_all}
use Rattle.t_text.specs.NameFaults.{regs_faults, body_faults, end_faults, block_faults}
use Rattle.t_shapes.specs.declared.raw_types.RawType.{RawType}
use Rattle.t_shapes.specs.RawTypes.{raw_reg}
use Rattle.t_shapes.specs.declared.raw.RawInstr.{RawInstr}
use Rattle.t_shapes.specs.declared.raw.RawBlock.{RawBlock}
use Rattle.t_shapes.specs.Raw.{raw_step, raw_end, raw_block}
use Rattle.t_reader.specs.Resolve.{StopsAt}
use Rattle.t_terms.specs.declared.fault.TFault.{TFault}
use Rattle.t_reader.proofs.Found.{stop_left, stop_right, none_both}

module _ (text : List ℕ) (ls : Labels) (b : RawBlock) (ns : List Span) (p : ns ≡ b.names.items) (a : List Name)
    (n : a ≡ bind text ns []) (rs : List (ℕ × Span × RawType)) (q : rs ≡ b.file.regs.items) where
  pub block_1_stop : (s : TFault) → StopsAt (regs_faults text a [] (raw_regs (map raw_reg rs))) s →
      StopsAt (block_faults text ls (raw_block b)) s
  block_1_stop s h = rw (← p, ← n, ← q) (stop_left _ _ s h)

  module _ (c : List Name) (regs : Vec (ℕ × TType) Global)
      (d : (c ≡ a) × (regs_faults text a [] (raw_regs (map raw_reg rs)) ≡ [])
      × (file regs.items ≡ file_of text a (raw_regs (map raw_reg rs)))) (xs : List (RawInstr × Span))
      (r : xs ≡ b.body.items) where
    pub block_2_stop : (s : TFault) → StopsAt (body_faults text ls c (map raw_step xs)) s →
        StopsAt (block_faults text ls (raw_block b)) s
    block_2_stop s h = rw (← p, ← n, ← q, ← r) (stop_right _ _ s d.1 (stop_left _ _ s (rw d.0 at h)))

    module _ (e : List Name) (body : Vec (Instr × Span) Global)
        (g : (e ≡ scope_after_all text (map raw_step xs) c) × (body_faults text ls c (map raw_step xs) ≡ [])
        × (read.body body.items ≡ body_of text ls c (map raw_step xs))) where
      pub block_3_stop : (s : TFault) → StopsAt (end_faults text ls e (raw_end b.last.0)) s →
          StopsAt (block_faults text ls (raw_block b)) s
      block_3_stop s h =
          rw (← p, ← n, ← q, ← r) (stop_right _ _ s d.1 (stop_right _ _ s (rw d.0 at g.1) (rw (g.0, d.0) at h)))

      pub block_whole : (last : End) → (end_faults text ls e (raw_end b.last.0) ≡ [])
          × (read.end_of last ≡ end_of text ls e (raw_end b.last.0)) →
          (block_faults text ls (raw_block b) ≡ [])
          × (read.spanned
          (record {
            name = b.name;
            owes = length ns;
            regs = record { regs = regs };
            body = body;
            end = last;
            end_span = b.last.1;
          }) ≡ block_of text ls (raw_block b))
      block_whole last h = (
        rw (← p, ← n, ← q, ← r) (none_both _ _ d.1 (none_both _ _ (rw d.0 at g.1) (rw (g.0, d.0) at h.0))),
        rw (← p, ← n, ← q, ← r, d.2, rw d.0 at g.2, rw (g.0, d.0) at h.1) refl,
      )
