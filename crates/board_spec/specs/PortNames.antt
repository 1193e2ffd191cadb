-- The ports by the names of their datasheets.
pub use Rattle.device_spec.specs.PortNames.{config_address_port, reset_control_port, config_data_ports, master_ports}
pub use Rattle.device_spec.specs.PortNames.{slave_ports, elcr_ports, timer_ports, system_port, keyboard_data_port}
pub use Rattle.device_spec.specs.PortNames.{keyboard_command_port, clock_ports, disk_data_port, disk_ports}
pub use Rattle.device_spec.specs.PortNames.{disk_control_port}
