-- `sessions::asked` meets its contract.
use Rattle.sessions.proofs.Carried.{few-found, written-found}
use Rattle.sessions.proofs.asked.Goals as goal

pub write_found-requires : goal.write_found-requires
write_found-requires c = (c.requires, few-found c.search-r.ensures)

pub returns : goal.returns
returns c = written-found c.search-r.ensures c.write_found.ensures
