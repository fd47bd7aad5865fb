mod Opening
mod Reporting
mod Tracing
