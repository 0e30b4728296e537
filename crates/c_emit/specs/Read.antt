-- The plain forms of what the walk is told.
use Rattle.std.specs.Prelude.{List, [], ◌∷◌}
use Rattle.c_terms.specs.Read.{ctree, ctys}
use Rattle.c_rules.specs.Emit as E
use Rattle.c_emit.specs.declared.parts.Info.{Info}
use Rattle.c_emit.specs.declared.parts.Frame.{Frame}
use Rattle.c_emit.specs.declared.parts.Note.{Note}
use Rattle.c_emit.specs.declared.parts.Note.TheVariants.{Calls, Packs}

abbrev pub info : Info → E.Info
info i = record {
  kept = i.kept.list.items;
  own = i.own;
  owes = i.owes;
  args = ctys i.args.items;
  apply = ctys i.apply.items;
  hidden = ctree i.hidden;
  shape = ctree i.shape;
  apply_in = ctys i.inside.apply.items;
  hidden_in = ctree i.inside.hidden;
  shape_in = ctree i.inside.shape;
}

abbrev pub frame : Frame → E.Frame
frame f = record {
  level = f.level;
  split = f.split;
  first = f.first;
  start = f.start;
  kept = f.kept.list.items;
  apply = ctys f.apply.items;
  hidden = ctree f.hidden;
  shape = ctree f.shape;
}

abbrev pub note : Note → E.Note
note (Calls types) = E.Calls (ctys types.items)
note (Packs hidden shape) = E.Packs (ctree hidden) (ctree shape)

abbrev pub frames_of : List Frame → List E.Frame
frames_of [] = []
frames_of (f ∷ fs) = frame f ∷ frames_of fs

abbrev pub infos_of : List Info → List E.Info
infos_of [] = []
infos_of (i ∷ is) = info i ∷ infos_of is

abbrev pub notes_of : List Note → List E.Note
notes_of [] = []
notes_of (n ∷ ns) = note n ∷ notes_of ns
