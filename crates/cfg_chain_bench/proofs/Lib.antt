mod Polling
