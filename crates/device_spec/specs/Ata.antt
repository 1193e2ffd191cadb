-- The ATA disk: AT Attachment, one drive that is moved by programmed input and output.
--     Ata.State        the sectors, the registers of the task file, and what a command has under way
--     Ata.Address      the sector that the address registers name, and how a sector is written back
--     Ata.Identify     the 256 words of IDENTIFY DEVICE
--     Ata.Commands     what each command does
--     Ata.Steps        one access to a port, and the disk after it
pub mod Address
pub mod Commands
pub mod Identify
pub mod State
pub mod Steps
