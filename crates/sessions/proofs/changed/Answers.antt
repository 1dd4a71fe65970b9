-- `sessions::changed` meets its contract.
use Rattle.sessions.proofs.Carried.{written}
use Rattle.sessions.proofs.changed.Goals as goal

pub returns : goal.returns
returns c = written c.reply_to-r.ensures c.write_reply.ensures
