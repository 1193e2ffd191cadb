-- The ports by the names of their datasheets; of a range the first and the last.
use Rattle.std.specs.Prelude.{ℕ}

-- configuration mechanism one (PCI Local Bus 2.1) and reset control (82371SB)
abbrev pub config_address_port : ℕ
config_address_port = 0xCF8

abbrev pub reset_control_port : ℕ
reset_control_port = 0xCF9

abbrev pub config_data_ports : ℕ × ℕ
config_data_ports = (0xCFC, 0xCFF)

-- the 8259A pair, and the edge and level control (82371SB, Interrupt Controller registers, ELCR)
abbrev pub master_ports : ℕ × ℕ
master_ports = (0x20, 0x21)

abbrev pub slave_ports : ℕ × ℕ
slave_ports = (0xA0, 0xA1)

abbrev pub elcr_ports : ℕ × ℕ
elcr_ports = (0x4D0, 0x4D1)

-- the 8254: its three counters and the control word register (82371SB, Counter/Timer registers)
abbrev pub counter0_port : ℕ
counter0_port = 0x40

abbrev pub counter1_port : ℕ
counter1_port = 0x41

abbrev pub counter2_port : ℕ
counter2_port = 0x42

abbrev pub control_word_port : ℕ
control_word_port = 0x43

abbrev pub timer_ports : ℕ × ℕ
timer_ports = (counter0_port, control_word_port)

-- port B of the system (82371SB, NMISC: NMI Status and Control Register)
abbrev pub system_port : ℕ
system_port = 0x61

-- the keyboard controller's data and command, and the clock's index and data (82371SB, XBCS, RTCI and RTCD)
abbrev pub keyboard_data_port : ℕ
keyboard_data_port = 0x60

abbrev pub keyboard_command_port : ℕ
keyboard_command_port = 0x64

abbrev pub clock_index_port : ℕ
clock_index_port = 0x70

abbrev pub clock_data_port : ℕ
clock_data_port = 0x71

abbrev pub clock_ports : ℕ × ℕ
clock_ports = (clock_index_port, clock_data_port)

-- The primary IDE channel: data, the other registers of the command block, and the control block. A write of the
-- error register's port is one of the features, of the status's a command, and of the control block device control
-- (ATA, Command Block and Control Block registers; 82371SB, IDE: the primary channel).
abbrev pub disk_data_port : ℕ
disk_data_port = 0x1F0

abbrev pub disk_error_port : ℕ
disk_error_port = 0x1F1

abbrev pub disk_count_port : ℕ
disk_count_port = 0x1F2

abbrev pub disk_low_port : ℕ
disk_low_port = 0x1F3

abbrev pub disk_mid_port : ℕ
disk_mid_port = 0x1F4

abbrev pub disk_high_port : ℕ
disk_high_port = 0x1F5

abbrev pub disk_device_port : ℕ
disk_device_port = 0x1F6

abbrev pub disk_status_port : ℕ
disk_status_port = 0x1F7

abbrev pub disk_ports : ℕ × ℕ
disk_ports = (disk_error_port, disk_status_port)

abbrev pub disk_control_port : ℕ
disk_control_port = 0x3F6
