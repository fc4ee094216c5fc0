-- What `meet` goes by: its tests, and what an unknown type and another give, and equal ones.
use Rattle.logic.specs.laws.Test.{if_passed, if_failed}
use Rattle.coerce.specs.laws.Joined.{pairing_null, null_pairing, pairing_same}

pub ruleset tests = (if_passed, if_failed, pairing_null, null_pairing, pairing_same)
