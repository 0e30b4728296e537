use Rattle.talc_core.proofs.laws.mismatches_keep_laws.Goals as goal

pub returns : goal.returns
returns c = record {
  one_of_a_source = c.one_mismatch.ensures;
  one_of_an_assembly = c.at_most_one_mismatch.ensures;
  one_source_line = c.one_line.ensures;
  one_assembly_line = c.one_line-2.ensures;
}
