-- The template, and over it all groups.
use borrow.Author.Rules.{rules}
use Rattle.template.proofs.Filling.{copy_long, file_put}
use Rattle.template.proofs.writing.write_file.Goals as goal

pub write_groups-requires : goal.write_groups-requires
write_groups-requires g c = (search rules, search copy_long)

pub returns : goal.returns
returns g c = search file_put
