use Rattle.std.proofs.Common.{◌∙◌, sym, ap}
use Rattle.std.proofs.Math.ListN.{replicate}
use Rattle.lists.proofs.Buffers.{padded-none}
use Rattle.palette.specs.declared.Entry.{Entry}
use Rattle.palette.specs.Cards.{most_entries, no_entry}
use Rattle.palette.proofs.no_entries.Goals as goal

pub returns : goal.returns
unfolding most_entries
returns c = ap (λ (t : Entry). replicate most_entries t) c.no_entry.ensures ∙ sym (padded-none most_entries no_entry)
