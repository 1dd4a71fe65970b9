-- `identifiers::used_entries` meets its contract: a register that keeps its rule is formed.
use Rattle.identifiers.proofs.Entries.{rule-formed}
use Rattle.identifiers.proofs.used_entries.Goals as goal

pub count_used-requires : goal.count_used-requires
count_used-requires c = rule-formed c.args.register.now c.requires
