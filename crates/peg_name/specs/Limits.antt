-- The first number of a rack that is out of its limit.
--     is_between low high n      whether the number is one of these
--     number_of format, format_of n      the number of a format, and the format with this number
--     config_of format rack      the rack in the format with this number, or the first number that
--         is out of its limit
use Rattle.std.specs.Prelude.{ℕ, Bool, Result, Ok, Err, Option, Some, None, nat_lt, nat_le, ◌&&◌}
use Rattle.std.specs.Prelude.{◌==◌, if◌then◌else◌}
use Rattle.peg_name.specs.Name.{Rack, servers_most, clients_most}
use Rattle.peg_name.specs.declared.Format.{Format}
use Rattle.peg_name.specs.declared.Format.TheVariants.{One, Two}
use Rattle.peg_name.specs.declared.config.ConfigFault.{ConfigFault}
use Rattle.peg_name.specs.declared.config.ConfigFault.TheVariants as fault

abbrev pub is_between : ℕ → ℕ → ℕ → Bool
is_between low high n = nat_le low n && nat_le n high

abbrev pub number_of : Format → ℕ
number_of One = 1
number_of Two = 2

abbrev pub format_of : ℕ → Option Format
format_of n = if n == 1 then Some One else (if n == 2 then Some Two else None)

-- a rack whose format is one
abbrev pub checked : Rack → Result Rack ConfigFault
checked r =
    if is_between 1 (servers_most r.format) r.servers then
    (if is_between 1 (clients_most r.format) r.clients then
    (if is_between 1 4 r.switches then
    (if is_between 1 64 r.listed then
    (if is_between 1 12 r.hot then
    (if nat_lt 0 r.first then Ok r else Err fault.First)
    else Err fault.Hot)
    else Err fault.Listed)
    else Err fault.Switches)
    else Err fault.Clients)
    else Err fault.Servers

abbrev pub config_in : Option Format → Rack → Result Rack ConfigFault
config_in None r = Err fault.Format
config_in (Some format) r = checked (record r { format = format })

-- what the rack's own format says counts for nothing here
abbrev pub config_of : ℕ → Rack → Result Rack ConfigFault
config_of format r = config_in (format_of format) r
