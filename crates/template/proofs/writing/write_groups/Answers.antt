use native.Mathlib.Omega.{arith}
use Rattle.laws.proofs.TemplateFiles.{writer_ok, samples_ok, template_ok}
use Rattle.template.proofs.Groups.{some_channel, few_channels, some_bits, few_bits, entry_there, entry_next, part_rises, frames_some, frames_inside}
use Rattle.template.proofs.Filling.{none_laid, fields_there, ends_within, lent_from, old_fits, group_fine, turn_laid, loop_laid}
use Rattle.template.proofs.writing.write_groups.Goals as goal

pub read_fields-h-requires : goal.read_fields-h-requires
read_fields-h-requires g c = search fields_there

pub loop-g-init : goal.loop-g-init
loop-g-init g c = none_laid _ _ _

pub entry_at-requires : goal.entry_at-requires
entry_at-requires g c = search (entry_there, template_ok)

pub entry_at-requires-in-loop-g : goal.entry_at-requires-in-loop-g
entry_at-requires-in-loop-g g c = search (entry_next, template_ok)

pub slice_bounds-reencode_group-count : goal.slice_bounds-reencode_group-count
slice_bounds-reencode_group-count g c = search lent_from

pub slice_bounds-reencode_group-start : goal.slice_bounds-reencode_group-start
slice_bounds-reencode_group-start g c = search lent_from

pub slice_bounds-reencode_group-count-in-loop-g : goal.slice_bounds-reencode_group-count-in-loop-g
slice_bounds-reencode_group-count-in-loop-g g c = search (part_rises, template_ok)

pub slice_bounds-reencode_group-start-in-loop-g : goal.slice_bounds-reencode_group-start-in-loop-g
slice_bounds-reencode_group-start-in-loop-g g c = search (part_rises, template_ok)

pub slice_bounds-reencode_group-end-in-loop-g : goal.slice_bounds-reencode_group-end-in-loop-g
slice_bounds-reencode_group-end-in-loop-g g c = search ends_within

pub reencode_group-requires : goal.reencode_group-requires
reencode_group-requires g c = record {
  given = (
    (search (frames_some, template_ok, samples_ok), omega arith, search (frames_inside, template_ok, samples_ok)),
    search (some_channel, writer_ok),
    search (few_channels, writer_ok),
    search (some_bits, writer_ok),
    search (few_bits, writer_ok),
  );
  accepted = (search group_fine, search old_fits);
}

pub loop-g-preserved : goal.loop-g-preserved
loop-g-preserved g c = search turn_laid

pub returns : goal.returns
returns g c = search loop_laid
