-- What a server of a format may keep, so that each of its replies is a packet.
--     store_fits format store      each version is at least 1, and each content is one that the
--         format's packets carry
use Rattle.std.specs.Prelude.{◌&&◌, nat_lt, Bool}
use Rattle.std.specs.List.{list_all}
use Rattle.peg_name.specs.declared.Format.{Format}
use Rattle.peg_event.specs.declared.answers.Stored.{Stored}
use Rattle.peg_model.specs.Packet.{is_content}
use Rattle.peg_model.specs.Server.{Store}

abbrev pub stored_fits : Format → Stored → Bool
stored_fits format stored = nat_lt 0 stored.version && is_content format stored.content

abbrev pub store_fits : Format → Store → Bool
store_fits format store = list_all (λ p. stored_fits format p.1) store
